use Rattle.std.proofs.Common.{◌≡◌, map, rules, ap, ◌∙◌}
use Rattle.std.proofs.lemmas.Iterator.{YieldsList-from_slice, YieldsList-from_map, items_from_collect}
use Rattle.std.proofs.lemmas.Result.{IfOk-at_ok, IfOk-weaker}
use Rattle.plant_config.specs.Plant.{dest_numbers}
use Rattle.plant_config.specs.LevelsInside.{indices_from}
use Rattle.plant_config.proofs.LevelsLemmas.{LeadToLevels-indices}
use Rattle.plant_config.proofs.levels.of_dests.Goals as goal

pub returns : goal.returns
returns c =
    let levels = c.args.levels.now in
    let counted : c.in_ok-counts.counts.items ≡ map dest_numbers.count levels =
    IfOk-at_ok _ c.in_ok-counts.was (items_from_collect _ c.collect.ensures.ran (YieldsList-from_map _ _ (YieldsList-from_slice levels cc) c.map.ensures.closure (λ x r q k. search rules))) in
    IfOk-weaker c.indices.result _ _ (λ made is. LeadToLevels-indices dest_numbers levels made.items c.requires.dests.follow (is ∙ ap (indices_from 0) (c.as_slice.ensures.value ∙ counted))) c.indices.ensures
