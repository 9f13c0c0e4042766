use Rattle.std.proofs.Common.{arith}
use Rattle.plant_names.proofs.NameLists.{place_of-long}
use Rattle.plant_names.proofs.level.number_of.Goals as goal

pub returns-then-name-gt-MAX_NAME : goal.returns-then-name-gt-MAX_NAME
returns-then-name-gt-MAX_NAME c = record { place = place_of-long c.args.name.now c.args.names.now.keys c.requires (omega arith); below = tt }
