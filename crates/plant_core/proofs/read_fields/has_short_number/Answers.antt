use Rattle.std.proofs.Common.{arith}
use Rattle.plant_core.proofs.PlacedLemmas.{no_short_dest}
use Rattle.plant_core.proofs.read_fields.has_short_number.Goals as goal

pub returns-then-destination_count-get : goal.returns-then-destination_count-get
returns-then-destination_count-get c = no_short_dest c.args.plant.now c.args.dest c.destination_count.ensures.plant (omega arith)
