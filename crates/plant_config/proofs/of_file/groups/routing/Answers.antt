use Rattle.std.proofs.Common.{List, All, map, ap, sym, subst, ◌∙◌}
use Rattle.plant_file.specs.FileData.{LevelData}
use Rattle.plant_config.specs.PlantOfFile.{placed, in_order}
use Rattle.plant_config.specs.OfFileInside.{AreLow, HasFewSources, shown}
use Rattle.plant_config.proofs.FactsOfFile.{AreLow-levels, few_sources}
use Rattle.plant_config.proofs.OneMore.{same_2}
use Rattle.plant_config.proofs.of_file.groups.routing.Goals as goal

pub routing_of-requires : goal.routing_of-requires
routing_of-requires c =
    let file = c.args.file.now in
    let in_file = c.in_ok-ordered.ensures ∙ ap in_order c.levels.ensures in
    let ordered = ap shown c.as_slice-2.ensures.value ∙ in_file in
    let numbered =
    c.in_ok-levels.ensures ∙ same_2 (λ (all ordered : List LevelData). map (placed all) ordered) c.levels-2.ensures (ap shown c.as_slice.ensures.value ∙ in_file) in
    record {
      file = c.requires;
      ordered = ordered;
      numbered = numbered;
      low = subst AreLow (sym numbered) (AreLow-levels file c.requires);
      few = subst (All HasFewSources) (sym ordered) (few_sources file c.requires);
    }
