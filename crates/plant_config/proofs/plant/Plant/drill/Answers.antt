use Rattle.std.proofs.Common.{ap, sym, subst, ◌∙◌}
use Rattle.plant_config.specs.IsPlant.{IsPlant}
use Rattle.plant_config.specs.DrillPlant.{drill_plant}
use Rattle.plant_config.specs.PlantInside.{data_of}
use Rattle.plant_config.proofs.DrillLemmas.{drill_is_plant}
use Rattle.plant_config.proofs.PartsLemmas.{data_of-parts}
use Rattle.plant_config.proofs.plant.Plant.drill.Goals as goal

pub returns : goal.returns
returns c =
    ap data_of c.in_ok-new.ensures.ok
    ∙ data_of-parts (drill_plant c.args.panels) _ (c.in_ok-drill.ensures c.args.panels) (c.in_ok-drill-2.ensures c.args.panels) c.in_ok-drill-3.ensures

pub invariant_of-result : goal.invariant_of-result
invariant_of-result c = subst IsPlant (sym (returns c)) (drill_is_plant c.args.panels c.requires.some c.requires.most)
