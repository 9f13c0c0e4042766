use Rattle.std.proofs.Common.{sym, subst, ◌∙◌}
use Rattle.mixer_effects.specs.Wiring.{IsWiringOf}
use Rattle.mixer_effects.specs.GraphData.{GraphData}
use Rattle.mixer_effects.proofs.graph.Graph.fed_device.Goals as goal

pub returns-clause-device : goal.returns-clause-device
returns-clause-device g c = λ plant wired.
    let own : IsWiringOf plant c.self.inside.mixers.now = subst (λ (graph : GraphData). IsWiringOf plant graph.wiring) (sym c.self.view_is) wired in
    c.fed_device.ensures ∙ own.by_output c.args.origin
