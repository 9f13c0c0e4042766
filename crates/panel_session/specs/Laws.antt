-- What holds of every session. The functions of `laws` promise it.
use Rattle.std.specs.Prelude.{◌≡◌, ◌≢◌, ℕ, List, [], ◌++◌, map}
use mathlib.Core.List.{IsPrefix}
use Rattle.dle_framing.specs.Items.{items}
use Rattle.history_lock.specs.Step.{Stepped}
use Rattle.plant_config.specs.Plant.{PlantData}
use Rattle.plant_core.specs.declared.answer.Answer.{Answer}
use Rattle.plant_core.specs.declared.request.Request.{Request}
use Rattle.panel_session.specs.Entry.{PlantEntry}
use Rattle.panel_session.specs.declared.session.Session.{Session}
use Rattle.panel_session.specs.Run.{IsWorked}
use Rattle.panel_session.specs.Session.{StandsFor, Awaits}
use Rattle.panel_session.specs.SoFar.{Progress, FitsOn, IsSoFar, unstarted}
use Rattle.panel_session.specs.Text.{IsText}
use Rattle.panel_session.specs.Turns.{Turn, FitsReads, bytes_read, entries_of_turns}

-- what a session stands for is what one may have done so far
abbrev pub StandsSoFar : Type 0
StandsSoFar = (plant : PlantData) (panel : ℕ) (session : Session) (past : Progress)
    → StandsFor plant panel session past → IsSoFar plant panel past

-- and so is what it stands for while a request of it wasn't answered
abbrev pub AwaitsSoFar : Type 0
AwaitsSoFar = (plant : PlantData) (panel : ℕ) (session : Session) (past : Progress)
    → (request : Request) → Awaits plant panel session past request → IsSoFar plant panel past

-- behind a past and from a state of a machine, two turns of one piece are the same, and so are the bytes that are sent in them
abbrev pub TurnsAreOne : {State : Type 0} → (State → Request → Stepped State Answer)
    → (State → Request → Type 0) → Type 0
TurnsAreOne {State} step Takes =
    (plant : PlantData) (panel : ℕ) (past : Progress) (machine : State) (turn other : Turn)
    (more less : List ℕ)
    → IsWorked step Takes plant panel past machine turn more
    → IsWorked step Takes plant panel past machine other less
    → turn.piece ≡ other.piece → (turn ≡ other) × (more ≡ less)

-- the entries of the turns that are over fit the pieces that were read
abbrev pub TurnsFit : Type 0
TurnsFit = (plant : PlantData) (panel : ℕ) (session : Session) (past : Progress)
    → StandsFor plant panel session past
    → FitsReads panel (map (λ turn. turn.piece) past.turns) (entries_of_turns past.turns)

-- Before anything was done of a turn, the text of those that are over was sent.
abbrev pub TurnsAreSent : Type 0
TurnsAreSent = (plant : PlantData) (panel : ℕ) (session : Session) (past : Progress)
    → StandsFor plant panel session past → past.now ≡ unstarted
    → IsText plant (items (bytes_read past.turns)) (entries_of_turns past.turns) past.sent

-- what a session stands for begins a list of entries that fits what was read of it and the rest of the present piece, of which
-- nothing is left where the turn has polled
abbrev pub StandsFits : Type 0
StandsFits = (plant : PlantData) (panel : ℕ) (session : Session) (past : Progress) (rest : List ℕ)
    → StandsFor plant panel session past → (past.now.polls ≢ [] → rest ≡ [])
    → FitsOn panel past (past.now.piece ++ rest)

-- and so does what it stands for while a request of it wasn't answered
abbrev pub AwaitsFits : Type 0
AwaitsFits = (plant : PlantData) (panel : ℕ) (session : Session) (past : Progress)
    → (request : Request) (rest : List ℕ)
    → Awaits plant panel session past request → (past.now.polls ≢ [] → rest ≡ [])
    → FitsOn panel past (past.now.piece ++ rest)

-- the text of a front of what was read is a front of the text of all, with the same entries
abbrev pub FrontsOfText : Type 0
FrontsOfText = (plant : PlantData) (read more : List ℕ) (entries : List PlantEntry)
    → (text : List ℕ) → IsText plant (items read) entries text
    → (whole : List ℕ) × IsText plant (items (read ++ more)) entries whole × IsPrefix text whole

-- what was read has one text with the same entries
abbrev pub TextsAreOne : Type 0
TextsAreOne = (plant : PlantData) (read : List ℕ) (entries : List PlantEntry)
    → (text other : List ℕ) → IsText plant (items read) entries text
    → IsText plant (items read) entries other → text ≡ other
