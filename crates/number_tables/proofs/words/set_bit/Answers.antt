use Rattle.std.proofs.Common.{arith}
use Rattle.number_tables.proofs.Bits.{SetsBit-or}
use Rattle.number_tables.proofs.words.set_bit.Goals as goal

pub returns-clause-sets : goal.returns-clause-sets
returns-clause-sets c = SetsBit-or c.args.words.now c.args.number (omega arith)
