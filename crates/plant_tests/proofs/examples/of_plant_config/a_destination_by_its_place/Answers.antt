use Rattle.std.proofs.Common.{arith}
use Rattle.plant_config.specs.Bench.{bench}
use Rattle.plant_tests.proofs.examples.of_plant_config.a_destination_by_its_place.Goals as goal

pub point-requires : goal.point-requires
unfolding bench
point-requires g c = rw (c.in_ok-plant.ensures, c.of-dest.ensures) (omega arith)
