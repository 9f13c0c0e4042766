use Rattle.std.proofs.Common.{◌+◌, ◌*◌, arith}
use Rattle.plant_config.specs.Plant.{destinations_of}
use Rattle.plant_core.specs.StateFault.{notices_fields}
use Rattle.plant_core.proofs.FaultLemmas.{none_at_first}
use Rattle.plant_core.proofs.NoticesFaultLemmas.{found_below}
use Rattle.plant_core.proofs.notices_fault.all_notices_fault.Goals as goal

pub loop-place-init : goal.loop-place-init
loop-place-init c = none_at_first (notices_fields c.args.plant.now c.args.bytes.now c.args.panel)

pub returns-in-Some : goal.returns-in-Some
returns-in-Some c =
    found_below (64 * c.loop-place.place + 64) (destinations_of c.args.plant.now) c.in-Some.fault (notices_fields c.args.plant.now c.args.bytes.now c.args.panel) (omega arith) c.in-Some.ensures
