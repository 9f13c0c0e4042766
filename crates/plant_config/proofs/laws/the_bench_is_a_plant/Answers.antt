use Rattle.plant_config.proofs.BenchLemmas.{bench_is_plant}
use Rattle.plant_config.proofs.laws.the_bench_is_a_plant.Goals as goal

pub returns : goal.returns
returns c = bench_is_plant
