use Rattle.std.proofs.Common.{arith}
use Rattle.plant_core.proofs.PlacedLemmas.{no_dest_of_level, no_source_of_level}
use Rattle.plant_core.proofs.read_fields.is_of_level.Goals as goal

pub returns-then-destination_count-get : goal.returns-then-destination_count-get
returns-then-destination_count-get c = no_dest_of_level c.args.plant.now c.args.dest c.args.source c.destination_count.ensures.plant (omega arith)

pub returns-then-source_count-get : goal.returns-then-source_count-get
returns-then-source_count-get c = no_source_of_level c.args.plant.now c.args.dest c.args.source _ c.destination_count.ensures.plant c.point-at.ensures (omega arith)
