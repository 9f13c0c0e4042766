use Rattle.std.proofs.Common.{ap, sym, subst, ◌∙◌}
use Rattle.plant_config.specs.IsPlant.{IsPlant}
use Rattle.plant_config.specs.PlantInside.{data_of}
use Rattle.plant_config.specs.PlantOfFile.{plant_of_file}
use Rattle.plant_config.specs.OfFileInside.{AreLow}
use Rattle.plant_config.proofs.FactsOfFile.{AreLow-levels}
use Rattle.plant_config.proofs.PartsLemmas.{data_of-parts}
use Rattle.plant_config.proofs.PlantOfFile.{is_plant}
use Rattle.plant_config.proofs.plant.Plant.of_file.Goals as goal

pub mixing-requires : goal.mixing-requires
unfolding plant_of_file
mixing-requires c =
    let file = c.args.file.now in
    let numbered = c.as_slice-levels.ensures ∙ c.in_ok-routing.ensures.levels in
    record { file = c.requires; numbered = numbered; low = subst AreLow (sym numbered) (AreLow-levels file c.requires) }

pub service-requires : goal.service-requires
unfolding plant_of_file
service-requires c =
    let file = c.args.file.now in
    let numbered = c.as_slice-levels.ensures ∙ c.in_ok-routing.ensures.levels in
    record { file = c.requires; numbered = numbered; low = subst AreLow (sym numbered) (AreLow-levels file c.requires) }

pub returns : goal.returns
returns c =
    ap data_of c.in_ok-new.ensures.ok ∙ data_of-parts (plant_of_file c.args.file.now) _ c.in_ok-routing.ensures c.in_ok-mixing.ensures c.in_ok-service.ensures

pub invariant_of-result : goal.invariant_of-result
invariant_of-result c = subst IsPlant (sym (returns c)) (is_plant c.args.file.now c.requires)
