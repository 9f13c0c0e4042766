-- What a lock answers to a session.
use Rattle.std.proofs.Common.{List, ◌++◌, subst}
use Rattle.history_lock.specs.Calls.{SeesAnswers, asked_by}
use Rattle.history_lock.specs.History.{IsLegal}
use Rattle.plant_config.specs.IsPlant.{IsPlant}
use Rattle.plant_config.specs.Plant.{PlantData}
use Rattle.plant_core.specs.State.{start, Fits as Takes}
use Rattle.plant_core.specs.Step.{step}
use Rattle.plant_core.specs.declared.answer.Answer.{Answer}
use Rattle.plant_core.specs.declared.request.Request.{Request}
use Rattle.plant_core.specs.HistoryLaws.{CanBeSent}
use Rattle.plant_core.proofs.HistoryLemmas.{last_sent}
use Rattle.plant_core.proofs.ShortLemmas.{StaysShort-start}
use Rattle.plant_core.proofs.Validity.{IsValid-start}
use Rattle.panel_session.specs.Entry.{PlantEntry}
use Rattle.panel_session.specs.Served.{PlantSeat}

-- What a seat was answered can be sent.
pub answer_of : (plant : PlantData) (seat seat_then : PlantSeat) (request : Request) (answers : List Answer) → IsPlant plant → IsLegal step Takes (start plant) seat_then.seen
    → SeesAnswers seat request answers seat_then → CanBeSent plant (asked_by seat request answers)
answer_of plant seat seat_then request answers is legal sees =
    let Legal : List PlantEntry → Type 0 = λ history. IsLegal step Takes (start plant) history in
    last_sent (start plant) (seat.seen ++ sees.0) (asked_by seat request answers) (IsValid-start plant is) (StaysShort-start plant) (subst Legal sees.1 legal)
