use Rattle.std.proofs.Common.{replicate}
use Rattle.number_tables.proofs.Members.{members-zero}
use Rattle.number_tables.proofs.SmallMembers.{zero_row}
use Rattle.number_tables.proofs.small_set.SmallSet.new.Goals as goal

pub returns : goal.returns
returns c = members-zero (replicate 16 0) (zero_row 16)
