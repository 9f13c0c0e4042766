use Rattle.dle_framing.proofs.LawLemmas.{reads_ack, reads_nak}
use Rattle.dle_framing.proofs.laws.reads_answers.Goals as goal

pub returns-clause-ack : goal.returns-clause-ack
returns-clause-ack c = reads_ack

pub returns-clause-nak : goal.returns-clause-nak
returns-clause-nak c = reads_nak
