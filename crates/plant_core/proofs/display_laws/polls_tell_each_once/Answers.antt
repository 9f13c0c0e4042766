use Rattle.plant_core.proofs.LampLemmas.{turns-told, turns-left, turns-done, differ-once}
use Rattle.plant_core.proofs.display_laws.polls_tell_each_once.Goals as goal

pub returns-clause-told : goal.returns-clause-told
returns-clause-told c = turns-told

pub returns-clause-left : goal.returns-clause-left
returns-clause-left c state screen turns = turns-left turns state screen

pub returns-clause-all : goal.returns-clause-all
returns-clause-all c = turns-done

pub returns-clause-once : goal.returns-clause-once
returns-clause-once c = differ-once
