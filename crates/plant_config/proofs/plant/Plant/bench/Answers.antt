use Rattle.std.proofs.Common.{ap, sym, subst, ◌∙◌}
use Rattle.plant_config.specs.IsPlant.{IsPlant}
use Rattle.plant_config.specs.Bench.{bench}
use Rattle.plant_config.specs.PlantInside.{data_of}
use Rattle.plant_config.proofs.BenchLemmas.{bench_is_plant}
use Rattle.plant_config.proofs.PartsLemmas.{data_of-parts}
use Rattle.plant_config.proofs.plant.Plant.bench.Goals as goal

pub returns : goal.returns
returns c =
    ap data_of c.in_ok-new.ensures.ok ∙ data_of-parts bench _ c.in_ok-bench.ensures c.bench-2.ensures c.in_ok-bench-2.ensures

pub invariant_of-result : goal.invariant_of-result
invariant_of-result c = subst IsPlant (sym (returns c)) bench_is_plant
