use Rattle.std.proofs.Common.{arith}
use Rattle.dle_framing.proofs.FrameLemmas.{length-doubled}
use Rattle.dle_framing.proofs.encode.doubled_len.Goals as goal

pub returns-clause-len : goal.returns-clause-len
returns-clause-len c = omega (arith, length-doubled c.args.bytes.now)
