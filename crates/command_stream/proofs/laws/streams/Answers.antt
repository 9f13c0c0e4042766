use Rattle.command_stream.proofs.LawLemmas.{sound, zero, three, five, accepted, refused, shows}
use Rattle.command_stream.proofs.laws.streams.Goals as goal

pub returns-clause-sound : goal.returns-clause-sound
returns-clause-sound c = sound

pub returns-clause-done : goal.returns-clause-done
returns-clause-done c = zero

pub returns-clause-fault : goal.returns-clause-fault
returns-clause-fault c = three

pub returns-clause-refused : goal.returns-clause-refused
returns-clause-refused c = five

pub returns-clause-accepted : goal.returns-clause-accepted
returns-clause-accepted c = accepted

pub returns-clause-bad : goal.returns-clause-bad
returns-clause-bad c = refused

pub returns-clause-shown : goal.returns-clause-shown
returns-clause-shown c = shows c.one_history.ensures.alone c.lines_answer_items.ensures
