use Rattle.std.proofs.Common.{◌+◌, length, ap, sym, ◌∙◌, arith}
use Rattle.plant_config.specs.Plant.{destinations_of}
use Rattle.plant_core.specs.StateFields.{byte_at}
use Rattle.plant_core.proofs.StateTextLemmas.{room_for_one}
use Rattle.plant_core.proofs.FaultLemmas.{notices_few, notices_kept, notices_broken}
use Rattle.plant_core.proofs.notices_fault.notices_fault.Goals as goal

pub byte_at-requires : goal.byte_at-requires
byte_at-requires c = omega (arith, c.requires.size, c.requires.place, room_for_one c.args.panel (length c.args.plant.now.panels) (1 + destinations_of c.args.plant.now) c.requires.panel)

pub returns-then-byte_at-few : goal.returns-then-byte_at-few
returns-then-byte_at-few c =
    let same = c.byte_at.ensures ∙ ap (byte_at c.args.bytes.now) c.requires.place in
    notices_few c.args.plant.now c.args.bytes.now c.args.panel c.args.dest c.args.few (omega (arith, same, c.if-byte_at-few.true)) c.requires.few

pub returns-then-notices_hold : goal.returns-then-notices_hold
returns-then-notices_hold c = notices_kept c.args.plant.now c.args.bytes.now c.args.panel c.args.dest (sym c.notices_hold.ensures ∙ c.if-notices_hold.true)

pub returns-else-notices_hold : goal.returns-else-notices_hold
returns-else-notices_hold c = notices_broken c.args.plant.now c.args.bytes.now c.args.panel c.args.dest c.args.place c.requires.place (sym c.notices_hold.ensures ∙ c.if-notices_hold.false)
