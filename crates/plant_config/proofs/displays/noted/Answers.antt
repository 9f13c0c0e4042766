use Rattle.std.proofs.Common.{◌≡◌, map, rules, sym, subst, ◌∙◌}
use Rattle.std.specs.List.{Contains}
use Rattle.std.proofs.lemmas.Iterator.{YieldsList-from_slice, YieldsList-from_map, items_from_collect}
use Rattle.std.proofs.lemmas.List.Filters.{dedup_is}
use Rattle.std.proofs.lemmas.List.Kept.{Contains-dedup_nat, Contains-from_dedup}
use Rattle.std.proofs.lemmas.List.Sorted.{Contains-permutation, IsPermutation-sym}
use Rattle.std.proofs.lemmas.Map.Keys.{IsStrictlyIncreasing-dedup}
use Rattle.std.proofs.lemmas.Result.{IfOk-at_ok}
use Rattle.plant_config.specs.declared.records.Display.{Display}
use Rattle.plant_config.proofs.ScreenLemmas.{screens_are}
use Rattle.plant_config.proofs.displays.noted.Goals as goal

pub returns : goal.returns
returns c =
    let displays = c.args.displays.now in
    let listed : c.in_ok-screens.screens.items ≡ map (λ (display : Display). display.screen) displays =
    IfOk-at_ok _ c.in_ok-screens.was (items_from_collect _ c.collect.ensures.ran (YieldsList-from_map _ _ (YieldsList-from_slice displays cc) c.map.ensures.closure (λ x r q k. search rules))) in
    let moved = c.sort_unstable.ensures.permutation in
    dedup_is _ _ _ c.dedup.ensures.filtered
    ∙ screens_are displays c.requires _ (IsStrictlyIncreasing-dedup _ c.sort_unstable.ensures.sorted)
    (λ screen has. Contains-dedup_nat _ screen (Contains-permutation _ _ screen moved (subst (λ screens. Contains screens screen) (sym listed) has)))
    (λ screen has. subst (λ screens. Contains screens screen) listed (Contains-permutation _ _ screen (IsPermutation-sym _ _ moved) (Contains-from_dedup _ _ screen has)))
