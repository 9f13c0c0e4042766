use Rattle.plant_core.proofs.AnswerLemmas.{All-sayable}
use Rattle.plant_core.proofs.CountLemmas.{answer_count, answers_within, room_within}
use Rattle.plant_core.proofs.laws.answers_are_few.Goals as goal

pub returns-clause-count : goal.returns-clause-count
returns-clause-count c = answer_count

pub returns-clause-sayable : goal.returns-clause-sayable
returns-clause-sayable c = All-sayable

pub returns-clause-room : goal.returns-clause-room
returns-clause-room c = room_within

pub returns-clause-within : goal.returns-clause-within
returns-clause-within c = λ state request fits. answers_within state.plant request _ (answer_count state request fits)
