use Rattle.std.proofs.Common.{ℕ, List, slice_get, sym, ap, subst, ◌∙◌}
use Rattle.mixer_effects.specs.Wiring.{IsWiringOf}
use Rattle.mixer_effects.specs.GraphData.{GraphData}
use Rattle.mixer_effects.proofs.graph.Graph.switched_by.Goals as goal

pub returns-clause-bus : goal.returns-clause-bus
returns-clause-bus g c = λ plant wired.
    let own : IsWiringOf plant c.self.inside.mixers.now = subst (λ (graph : GraphData). IsWiringOf plant graph.wiring) (sym c.self.view_is) wired in
    c.switched.ensures ∙ ap (λ (buses : List ℕ). slice_get buses c.args.place) (own.switched c.args.dest)
