use Rattle.std.proofs.Common.{◌+◌, length, arith}
use Rattle.plant_config.specs.Plant.{destinations_of}
use Rattle.plant_core.proofs.StateTextLemmas.{room_for_one}
use Rattle.plant_core.proofs.shown_fields.notices_hold.Goals as goal

pub byte_at-requires : goal.byte_at-requires
byte_at-requires c = omega (arith, room_for_one c.args.panel (length c.args.plant.now.panels) (1 + destinations_of c.args.plant.now) c.requires.panel)
