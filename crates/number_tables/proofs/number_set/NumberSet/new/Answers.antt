use Rattle.number_tables.proofs.Members.{members-zero}
use Rattle.number_tables.proofs.number_set.NumberSet.new.Goals as goal

pub returns : goal.returns
returns c = members-zero _ c.in_ok-words.ensures.zero
