-- The one history of a replay.
use Rattle.std.specs.Prelude.{◌≡◌, ℕ, ◌==◌, Bool, true, false, if◌then◌else◌, List, [], ◌∷◌, ◌++◌, map, filter, All}
use Rattle.std.specs.List.{flat_map}
use Rattle.dle_framing.specs.Items.{items}
use Rattle.history_lock.specs.History.{IsLegal, entries_of}
use Rattle.plant_config.specs.Limits.{panel_limit}
use Rattle.plant_config.specs.Plant.{PlantData}
use Rattle.plant_core.specs.State.{Fits, start}
use Rattle.plant_core.specs.Step.{step}
use Rattle.plant_core.specs.declared.request.Request.{Request}
use Rattle.plant_core.specs.declared.request.Request.TheVariants as requests
use Rattle.plant_core.specs.declared.answer.Answer.{Answer}
use Rattle.panel_session.specs.Entry.{PlantEntry}
use Rattle.panel_session.specs.Text.{IsText}
use Rattle.panel_session.specs.Turns as turns
use Rattle.record_replay.specs.Script.{Work, Read, Leave, Show, lines, worked, LinesSpell}
use Rattle.record_replay.specs.Replay.{turn_line, leave_line, show_line}

-- What was done for a line of a script: a turn of a panel's session with this piece, its entries in the plant's history and
-- the bytes that were sent in it; the leave of a panel; or a display poll of a screen and its answers.
pub data Action : Type 0 where
  Turned : (panel : ℕ) (piece : List ℕ) (entries : List PlantEntry) (sent : List ℕ) → Action
  Left : (panel : ℕ) → Action
  Polled : (screen : ℕ) (refresh : Bool) (answers : List Answer) → Action

-- the work that it does
abbrev pub work_of : Action → Work
work_of (Turned panel piece entries sent) = Read panel piece
work_of (Left panel) = Leave panel
work_of (Polled screen refresh answers) = Show screen refresh

-- the output line that shows it, on this plant
abbrev pub line_of : PlantData → Action → List ℕ
line_of plant (Turned panel piece entries sent) = turn_line panel sent
line_of plant (Left panel) = leave_line panel
line_of plant (Polled screen refresh answers) = show_line plant screen answers

-- the seat of the displays, behind those of the most panels
abbrev pub display_seat : ℕ
display_seat = panel_limit

-- its entries in the plant's history: a leave is one, by the panel's seat, and has no answer; a display poll is one, by the
-- displays' seat
abbrev pub entries_by : Action → List PlantEntry
entries_by (Turned panel piece entries sent) = entries
entries_by (Left panel) = record { seat = panel; request = requests.Leave panel; answers = [] } ∷ []
entries_by (Polled screen refresh answers) =
    record {
      seat = display_seat;
      request = requests.DisplayPoll screen refresh;
      answers = answers;
    }
    ∷ []

-- the history of actions: their entries, one action after the other
abbrev pub history_of : List Action → List PlantEntry
history_of actions = flat_map entries_by actions

-- whether a session asks for it: no session asks for a leave or for a display poll
abbrev pub is_of_session : Request → Bool
is_of_session (requests.Told panel item message) = true
is_of_session (requests.Poll panel item turn) = true
is_of_session (requests.Leave panel) = false
is_of_session (requests.DisplayPoll screen refresh) = false

-- All entries of a turn are by the panel's seat, and are what a session asks for.
abbrev pub IsSeated : Action → Type 0
IsSeated (Turned panel piece entries sent) =
    All (λ entry. (entry.seat ≡ panel) × (is_of_session entry.request ≡ true)) entries
IsSeated (Left panel) = Unit {0}
IsSeated (Polled screen refresh answers) = Unit {0}

-- the piece and the bytes of a turn, where it is of this panel
abbrev pub piece_in : ℕ → Action → List (List ℕ)
piece_in panel (Turned reader piece entries sent) = if panel == reader then piece ∷ [] else []
piece_in panel (Left leaver) = []
piece_in panel (Polled screen refresh answers) = []

abbrev pub sent_in : ℕ → Action → List ℕ
sent_in panel (Turned reader piece entries sent) = if panel == reader then sent else []
sent_in panel (Left leaver) = []
sent_in panel (Polled screen refresh answers) = []

-- the pieces that a panel's session read, and the bytes that it sent, in order
abbrev pub pieces_of : ℕ → List Action → List (List ℕ)
pieces_of panel actions = flat_map (piece_in panel) actions

abbrev pub sent_of : ℕ → List Action → List ℕ
sent_of panel actions = flat_map (sent_in panel) actions

-- the entries of a panel's session in a history: those of its seat that a session asks for
abbrev pub session_in : ℕ → List PlantEntry → List PlantEntry
session_in panel history = filter (λ entry. is_of_session entry.request) (entries_of panel history)

-- A panel's session makes these entries of these pieces, and what it sends is its text of them.
pub record IsSession (plant : PlantData) (panel : ℕ) (pieces : List (List ℕ))
    (entries : List PlantEntry) (sent : List ℕ) : Type 0 where
  pub fits : turns.FitsReads panel pieces entries
  pub text : IsText plant (items (flat_map (λ piece. piece) pieces)) entries sent

-- In the history of these actions the session of each panel is one: of the pieces that it read in them, with the bytes that
-- it sent.
abbrev pub AreSessions : PlantData → List Action → Type 0
AreSessions plant actions = (panel : ℕ)
    → IsSession plant panel (pieces_of panel actions) (session_in panel (history_of actions))
    (sent_of panel actions)

-- A script's lines that aren't skipped spell the works of these actions, and the output shows each of them. Their history is
-- legal from the start of the plant, and behind each action the session of each panel is one.
pub record IsHistory (plant : PlantData) (script output : List ℕ) (actions : List Action)
    : Type 0 where
  pub spelled : LinesSpell plant (worked (lines script)) (map work_of actions)
  pub shown : output ≡ flat_map (line_of plant) actions
  pub seated : All IsSeated actions
  pub legal : IsLegal step Fits (start plant) (history_of actions)
  pub each : (before after : List Action) → actions ≡ before ++ after
      → AreSessions plant before
