use Rattle.std.proofs.Common.{◌≡◌, Ok, Err, sym, ap, ◌∙◌, arith}
use Rattle.tsl_umd5.specs.Reading.{packet_reading}
use Rattle.doubled_bytes.specs.Reading.{with_item}
use Rattle.tsl_stream.specs.Items.{PacketItem, told, stream_reading}
use Rattle.tsl_stream.proofs.Packets.{IsTooLong, taken_whole}
use Rattle.tsl_stream.proofs.Readings.{stream_reading-long, stream_reading-whole}
use Rattle.tsl_stream.proofs.front.Front.end.Goals as goal

pub returns-then-wanted-gt-MAX_PACKET-clause-ends :
    goal.returns-then-wanted-gt-MAX_PACKET-clause-ends
returns-then-wanted-gt-MAX_PACKET-clause-ends c = λ more.
    let front = c.args.self.now in
    let long : IsTooLong front = record { counted = c.requires.counted (omega arith); more = omega arith } in
    rw c.wanted-wanted.ensures (stream_reading-long front more long)

pub returns-in-Ok-clause-ends : goal.returns-in-Ok-clause-ends
returns-in-Ok-clause-ends c = λ more.
    let front = c.args.self.now in
    let whole = taken_whole front c.self.inside.bytes c.self.inside.len c.self.view_is (omega arith) (omega arith) (omega arith) c.requires in
    let read : packet_reading front ≡ Ok c.in-Ok.field-0 = ap packet_reading (sym c.as_slice.ensures) ∙ sym c.in-Ok.ensures.exact in
    stream_reading-whole front more whole ∙ ap (λ (item : PacketItem). with_item item (stream_reading more)) (ap (told front) read)

pub returns-in-Err-clause-ends : goal.returns-in-Err-clause-ends
returns-in-Err-clause-ends c = λ more.
    let front = c.args.self.now in
    let whole = taken_whole front c.self.inside.bytes c.self.inside.len c.self.view_is (omega arith) (omega arith) (omega arith) c.requires in
    let read : packet_reading front ≡ Err c.in-Err.fault = ap packet_reading (sym c.as_slice.ensures) ∙ sym c.in-Err.ensures.exact in
    stream_reading-whole front more whole ∙ ap (λ (item : PacketItem). with_item item (stream_reading more)) (ap (told front) read)
