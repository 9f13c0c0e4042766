use Rattle.std.proofs.Common.{arith}
use Rattle.plant_core.proofs.PlacedLemmas.{no_short_source}
use Rattle.plant_core.proofs.read_fields.has_short_source_number.Goals as goal

pub returns-then-source_count-get : goal.returns-then-source_count-get
returns-then-source_count-get c = no_short_source c.args.plant.now c.args.source c.source_count.ensures.plant (omega arith)
