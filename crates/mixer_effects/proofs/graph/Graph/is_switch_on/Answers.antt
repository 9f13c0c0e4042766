use Rattle.std.proofs.Common.{ℕ, ◌==◌, not, Option, false, sym, ap, subst, ◌∙◌}
use Rattle.std.specs.Option.{option_map_or, option_and_then}
use Rattle.plant_config.specs.Sites.{source_number_of}
use Rattle.mixer_effects.specs.Wiring.{IsWiringOf}
use Rattle.mixer_effects.specs.GraphData.{GraphData}
use Rattle.mixer_effects.specs.Buses.{is_switch_on}
use Rattle.mixer_effects.proofs.graph.Graph.is_switch_on.Goals as goal

pub returns-in-Some : goal.returns-in-Some
returns-in-Some g c = λ plant wired.
    let own : IsWiringOf plant c.self.inside.mixers.now = subst (λ (graph : GraphData). IsWiringOf plant graph.wiring) (sym c.self.view_is) wired in
    c.is_on_by.ensures
    ∙ ap (λ (number : Option ℕ). option_map_or (λ number. not (number == 0)) number false) (own.numbers c.in-Some.source)
    ∙ ap (λ (source : Option ℕ). option_map_or (λ number. not (number == 0)) (option_and_then (source_number_of plant) source) false) c.in-Some.ensures
    ∙ ap (λ (graph : GraphData). is_switch_on plant graph.crosspoints c.args.switch) c.self.view_is

pub returns-in-None : goal.returns-in-None
returns-in-None g c = λ plant wired.
    ap (λ (source : Option ℕ). option_map_or (λ number. not (number == 0)) (option_and_then (source_number_of plant) source) false) c.in-None.ensures
    ∙ ap (λ (graph : GraphData). is_switch_on plant graph.crosspoints c.args.switch) c.self.view_is
