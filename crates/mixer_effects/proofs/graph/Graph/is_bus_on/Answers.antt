use Rattle.std.proofs.Common.{true, sym, ap, ◌∙◌}
use Rattle.std.specs.Option.{option_map_or}
use Rattle.mixer_effects.specs.Buses.{is_switch_on}
use Rattle.mixer_effects.proofs.graph.Graph.is_bus_on.Goals as goal

pub returns-in-Some : goal.returns-in-Some
returns-in-Some g c = λ plant wired.
    c.is_switch_on.ensures plant wired
    ∙ ap (λ switch. option_map_or (is_switch_on plant c.args.self.now.crosspoints) switch true) (sym c.in-Some.is)

pub returns-in-None : goal.returns-in-None
returns-in-None g c = λ plant wired.
    ap (λ switch. option_map_or (is_switch_on plant c.args.self.now.crosspoints) switch true) (sym c.in-None.is)
