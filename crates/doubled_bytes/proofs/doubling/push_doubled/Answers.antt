use Rattle.std.proofs.Common.{length, take, ap, arith}
use Rattle.std.proofs.lemmas.List.{length-append}
use Rattle.doubled_bytes.specs.Doubled.{doubled}
use Rattle.doubled_bytes.proofs.Runs.{doubled-room}
use Rattle.doubled_bytes.proofs.doubling.push_doubled.Goals as goal

pub push_byte-requires : goal.push_byte-requires
push_byte-requires c =
    let dle = c.args.dle in
    let bytes = c.args.bytes.now in
    let i = c.loop-byte.byte-index in
    omega (arith, doubled-room dle bytes i (omega arith), ap length c.loop-byte.invariant.written, length-append c.args.out.now.items (doubled dle (take i bytes)))
