use Rattle.std.proofs.Common.{length, take, ap, arith}
use Rattle.std.proofs.lemmas.List.{length-append}
use Rattle.dle_framing.specs.Frame.{doubled}
use Rattle.dle_framing.proofs.FrameLemmas.{doubled-room}
use Rattle.drill.proofs.frames.push_doubled.Goals as goal

pub push_byte-requires : goal.push_byte-requires
push_byte-requires c =
    let bytes = c.args.bytes.now in
    let i = c.loop-byte.byte-index in
    omega (arith, doubled-room bytes i (omega arith), ap length c.loop-byte.invariant.written, length-append c.args.out.now.items (doubled (take i bytes)))
