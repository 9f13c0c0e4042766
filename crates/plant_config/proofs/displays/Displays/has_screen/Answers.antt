use Rattle.std.proofs.Common.{ap, sym, subst, ◌∙◌}
use Rattle.std.specs.List.Sorted.{IsStrictlyIncreasing}
use Rattle.std.proofs.lemmas.List.Sorted.{searched}
use Rattle.std.proofs.lemmas.Map.Keys.{sorted_from_strictly_increasing, non_decreasing_from_sorted}
use Rattle.plant_config.specs.Screens.{is_screen_among}
use Rattle.plant_config.proofs.ScreenLemmas.{among, screens_have, screens_rise, search_is}
use Rattle.plant_config.proofs.displays.Displays.has_screen.Goals as goal

pub returns : goal.returns
returns c =
    let displays = c.self.inside.displays.items in
    let screen = c.args.screen in
    let noted = c.as_slice.ensures.value ∙ c.self.invariant.noted in
    let rises = subst IsStrictlyIncreasing (sym noted) (screens_rise displays) in
    let in_order = non_decreasing_from_sorted _ (sorted_from_strictly_increasing _ rises) in
    c.is_ok.ensures.value
    ∙ search_is c.as_slice.result.now screen _ (searched _ _ _ c.binary_search.ensures.position (λ i j before low. in_order i j 0 before low))
    ∙ ap (λ screens. among screens screen) noted
    ∙ screens_have displays c.self.invariant.within screen
    ∙ ap (λ all. is_screen_among all screen) c.self.view_is
