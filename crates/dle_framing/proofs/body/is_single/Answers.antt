use Rattle.std.proofs.Common.{arith}
use Rattle.dle_framing.proofs.FrameLemmas.{not-single}
use Rattle.dle_framing.proofs.body.is_single.Goals as goal

pub returns-then-byte-eq-DLE-clause-other : goal.returns-then-byte-eq-DLE-clause-other
returns-then-byte-eq-DLE-clause-other c = not-single c.args.bytes.now c.loop-byte.byte-index (omega arith) c.if-byte-eq-DLE.true
