-- A work leaves each session between two turns, and what a turn sends answers the items of its piece.
use Rattle.std.proofs.Common.{ℕ, ◌<◌, Bool, cond, List, [], ◌∷◌, length, refl, sym, subst, append-nil, eq-eqb}
use Rattle.std.proofs.lemmas.List.Elements.{All-cons, All-nil}
use Rattle.plant_config.specs.Plant.{PlantData}
use Rattle.panel_session.specs.Run.{turned}
use Rattle.panel_session.specs.SettledInside.{Settled}
use Rattle.panel_session.specs.SoFar.{Progress}
use Rattle.panel_session.specs.Turns.{bytes_read}
use Rattle.record_replay.specs.Answered.{AnswersItems}
use Rattle.record_replay.specs.Script.{Work, Read, IsOfPlant}
use Rattle.record_replay.specs.Replay.{ReplayState, behind_turn, Advances}
use Rattle.record_replay.specs.StandInside.{IsSettled}
use Rattle.record_replay.proofs.TurnAnswers.{turn_answers}
use Rattle.record_replay.proofs.WorksLemmas.{works_exist, one_output}

-- A work can be done so that each session is between two turns then, and it is done in one way.
pub work_settled : (plant : PlantData) (work : Work) (line : List ℕ) (stand next : ReplayState) → IsSettled plant stand → IsOfPlant plant work → Advances plant work stand line next
    → IsSettled plant next
work_settled plant work line stand next settled has done =
    let Has : Work → Type 0 = IsOfPlant plant in
    let made = works_exist plant (work ∷ []) stand settled (All-cons Has work [] has (All-nil Has)) in
    let same = one_output plant (work ∷ []) stand made.1 next made.0 line made.2 (next, line, [], done, (refl, refl), sym (append-nil line)) in
    subst (IsSettled plant) same.1 made.3

-- So what is sent in a turn answers the items that end in its piece.
pub work_answers : (plant : PlantData) (panel : ℕ) (piece line : List ℕ) (stand next : ReplayState) → IsSettled plant stand → panel < length plant.panels
    → (done : Advances plant (Read panel piece) stand line next) → AnswersItems (bytes_read (stand.pasts panel).turns) piece done.1
work_answers plant panel piece line stand next settled has done =
    let past = stand.pasts panel in
    let then : Progress = turned done.0 done.1 past in
    let settled_then : Settled plant panel ((behind_turn panel done.0 done.1 stand).pasts panel) =
    (work_settled plant (Read panel piece) line stand (behind_turn panel done.0 done.1 stand) settled has (done.0, done.1, done.2, done.3, done.4, refl)).each panel in
    let SettledBy : Bool → Type 0 = λ test. Settled plant panel (cond test then past) in
    let Of : List ℕ → Type 0 = λ piece. AnswersItems (bytes_read past.turns) piece done.1 in
    subst Of done.2 (turn_answers plant panel past done.0 done.1 done.3.is_turn (settled.each panel) (subst SettledBy (eq-eqb panel panel refl) settled_then))
