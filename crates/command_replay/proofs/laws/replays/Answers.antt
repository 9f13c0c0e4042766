use Rattle.command_replay.proofs.LawLemmas.{sound, zero, five, accepted, refused, shows}
use Rattle.command_replay.proofs.laws.replays.Goals as goal

pub returns-clause-sound : goal.returns-clause-sound
returns-clause-sound c = sound

pub returns-clause-done : goal.returns-clause-done
returns-clause-done c = zero

pub returns-clause-refused : goal.returns-clause-refused
returns-clause-refused c = five

pub returns-clause-accepted : goal.returns-clause-accepted
returns-clause-accepted c = accepted

pub returns-clause-bad : goal.returns-clause-bad
returns-clause-bad c = refused

pub returns-clause-shown : goal.returns-clause-shown
returns-clause-shown c = shows c.one_history.ensures.alone c.lines_answer_items.ensures
