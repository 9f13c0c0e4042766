-- A turn that was worked.
use Rattle.std.specs.Prelude.{◌≡◌, ℕ, List, [], ◌∷◌, ◌++◌, All}
use Rattle.dle_framing.specs.Items.{items}
use Rattle.history_lock.specs.History.{IsLegal}
use Rattle.history_lock.specs.Step.{Stepped}
use Rattle.plant_config.specs.Plant.{PlantData}
use Rattle.plant_core.specs.declared.answer.Answer.{Answer}
use Rattle.plant_core.specs.declared.request.Request.{Request}
use Rattle.panel_session.specs.SoFar.{Progress, unstarted}
use Rattle.panel_session.specs.Text.{IsText}
use Rattle.panel_session.specs.Turns.{Turn, bytes_read, entries_in, entries_of_turns, IsTurn}

-- the past with one turn more, in which these bytes were sent
abbrev pub turned : Turn → List ℕ → Progress → Progress
turned turn more past =
    record { turns = past.turns ++ turn ∷ []; now = unstarted; sent = past.sent ++ more }

-- All that was sent in a past, and then these bytes of a turn, is the session's text of what was read and answered in
-- both.
abbrev pub CompletesText : PlantData → Progress → Turn → List ℕ → Type 0
CompletesText plant past turn more =
    IsText plant (items (bytes_read past.turns ++ turn.piece))
    (entries_of_turns past.turns ++ entries_in turn) (past.sent ++ more)

-- A turn of a panel's session is worked behind a past, by a machine from this state on, and these bytes are sent in it: it
-- is a turn, its entries are the panel's, each is answered as the machine answers it in its place, and all that was sent so
-- far is the session's text.
pub record IsWorked {State : Type 0} (step : State → Request → Stepped State Answer)
    (Fits : State → Request → Type 0)
    (plant : PlantData) (panel : ℕ) (past : Progress) (machine : State) (turn : Turn)
    (more : List ℕ) : Type 0 where
  pub is_turn : IsTurn panel past.turns turn
  pub seats : All (λ entry. entry.seat ≡ panel) (entries_in turn)
  pub legal : IsLegal step Fits machine (entries_in turn)
  pub text : CompletesText plant past turn more
