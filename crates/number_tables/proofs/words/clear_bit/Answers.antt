use Rattle.std.proofs.Common.{arith}
use Rattle.number_tables.proofs.Bits.{ClearsBit-and}
use Rattle.number_tables.proofs.words.clear_bit.Goals as goal

pub returns-clause-clears : goal.returns-clause-clears
returns-clause-clears c = ClearsBit-and c.args.words.now c.args.number (omega arith)
