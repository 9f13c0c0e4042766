use Rattle.std.proofs.Common.{sym, ap, subst, ◌∙◌}
use Rattle.std.specs.Option.{option_map}
use Rattle.plant_config.specs.declared.records.Bus.{Bus}
use Rattle.mixer_effects.specs.Wiring.{IsWiringOf}
use Rattle.mixer_effects.specs.GraphData.{GraphData}
use Rattle.mixer_effects.proofs.graph.Graph.device_of.Goals as goal

pub returns-in_err-bus-clause-device : goal.returns-in_err-bus-clause-device
returns-in_err-bus-clause-device g c = λ plant wired.
    let own : IsWiringOf plant c.self.inside.mixers.now = subst (λ (graph : GraphData). IsWiringOf plant graph.wiring) (sym c.self.view_is) wired in
    c.from_residual.ensures ∙ ap (option_map (λ (bus : Bus). bus.device)) (c.in_err-bus.ensures ∙ own.by_dest c.args.dest)

pub returns-clause-device : goal.returns-clause-device
returns-clause-device g c = λ plant wired.
    let own : IsWiringOf plant c.self.inside.mixers.now = subst (λ (graph : GraphData). IsWiringOf plant graph.wiring) (sym c.self.view_is) wired in
    ap (option_map (λ (bus : Bus). bus.device)) (c.in_ok-bus.ensures ∙ own.by_dest c.args.dest)
