use Rattle.std.proofs.Common.{refl}
use Rattle.plant_config.specs.Bench.{bench, bench_file, bench_sources, bench_dest_names}
use Rattle.plant_config.specs.PlantOfFile.{plant_of_file}
use Rattle.plant_config.proofs.laws.the_bench_is_in_its_file.Goals as goal

pub returns : goal.returns
unfolding plant_of_file bench bench_file bench_sources bench_dest_names
returns c = refl
