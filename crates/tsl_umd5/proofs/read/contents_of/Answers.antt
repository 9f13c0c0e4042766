use Rattle.std.proofs.Common.{◌+◌, ◌-◌, length, take, drop, arith}
use Rattle.std.proofs.lemmas.List.{length-drop, take_rest, get_or-drop}
use Rattle.tsl_umd5.proofs.ReadingInsideLemmas.{are_read, contents_is}
use Rattle.tsl_umd5.proofs.read.contents_of.Goals as goal

pub invariant_of-result : goal.invariant_of-result
invariant_of-result c =
    let bytes = c.args.bytes.now in
    let good = rw (take_rest bytes 6) at c.in_ok-check_messages.ensures in
    rw (take_rest bytes 6) (are_read (drop 6 bytes) (λ i. rw get_or-drop (omega (arith, c.type_inv.bytes (6 + i)))) (omega (arith, length-drop 6 bytes)) good)

pub returns : goal.returns
returns c =
    let bytes = c.args.bytes.now in
    contents_is bytes (take (length bytes - 6) (drop 6 bytes)) c.from_le_bytes-screen.result (omega arith) (take_rest bytes 6) (omega arith) (omega arith) (omega arith) (omega arith) c.in_ok-check_messages.ensures
