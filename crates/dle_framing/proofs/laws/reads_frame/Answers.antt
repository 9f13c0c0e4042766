use Rattle.dle_framing.proofs.LawLemmas.{reads_one, reads_in_a_row}
use Rattle.dle_framing.proofs.laws.reads_frame.Goals as goal

pub returns-clause-one : goal.returns-clause-one
returns-clause-one c = reads_one

pub returns-clause-in_a_row : goal.returns-clause-in_a_row
returns-clause-in_a_row c = reads_in_a_row
