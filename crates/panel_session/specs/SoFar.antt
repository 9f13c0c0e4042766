-- What a session has done so far.
use Rattle.std.specs.Prelude.{◌≡◌, ◌≢◌, ℕ, ◌≤◌, List, [], ◌∷◌, ◌++◌, length, map, All}
use mathlib.Core.List.{IsPrefix}
use Rattle.dle_framing.specs.declared.item.Item.{Item}
use Rattle.dle_framing.specs.Items.{items}
use Rattle.plant_config.specs.Plant.{PlantData}
use Rattle.plant_core.specs.declared.request.Request.{Request}
use Rattle.plant_core.specs.declared.request.Request.TheVariants.{Told, Poll, Leave, DisplayPoll}
use Rattle.panel_session.specs.Entry.{PlantEntry}
use Rattle.panel_session.specs.declared.session.asked.Asked.{Asked}
use Rattle.panel_session.specs.Asked.{AllAsk, sent_to_plant}
use Rattle.panel_session.specs.Turns.{Turn, bytes_read, entries_of_turns, requests, item_count, poll_behind, EndIn, AreTurns, FitsReads, IsTurn}
use Rattle.panel_session.specs.Text.{IsText}

-- The turns that are over, the present one so far (the bytes of its piece that were used, and its entries), and the bytes
-- that were sent.
pub record Progress : Type 0 where
  pub turns : List Turn
  pub now : Turn
  pub sent : List ℕ

abbrev pub unstarted : Turn
unstarted = record { piece = []; told = []; polls = [] }

-- nothing was read, asked or sent
abbrev pub nothing_yet : Progress
nothing_yet = record { turns = []; now = unstarted; sent = [] }

-- more bytes of the present piece were used
abbrev pub with_bytes : List ℕ → Progress → Progress
with_bytes bytes past = record past { now = record past.now { piece = past.now.piece ++ bytes } }

-- these bytes were sent
abbrev pub with_sent : List ℕ → Progress → Progress
with_sent bytes past = record past { sent = past.sent ++ bytes }

-- a request was answered
abbrev pub with_entry : PlantEntry → Progress → Progress
with_entry entry past = record past { now = added entry.request entry past.now } where
  added : Request → PlantEntry → Turn → Turn
  added (Poll panel item turn) entry now = record now { polls = now.polls ++ entry ∷ [] }
  added (Told panel item message) entry now = record now { told = now.told ++ entry ∷ [] }
  added (Leave panel) entry now = now
  added (DisplayPoll screen refresh) entry now = now

-- the present turn is over
abbrev pub with_turn : Progress → Progress
with_turn past = record past { turns = past.turns ++ past.now ∷ []; now = unstarted }

abbrev pub read_so_far : Progress → List ℕ
read_so_far past = bytes_read past.turns ++ past.now.piece

abbrev pub entries_so_far : Progress → List PlantEntry
entries_so_far past = entries_of_turns past.turns ++ (past.now.told ++ past.now.polls)

-- the poll that the present turn makes
abbrev pub poll_now : ℕ → Progress → Request
poll_now panel past = poll_behind panel past.turns past.now.piece

-- Where the present turn has polled, all was told that its items, which ask so, send to the plant.
abbrev pub TellsFirst : ℕ → Progress → List Asked → Type 0
TellsFirst panel past asked =
    past.now.polls ≢ [] → requests past.now.told ≡ sent_to_plant panel (item_count past.turns) asked

-- What a session has done so far fits: the turns that are over are turns; of the present one a front of what its items send
-- to the plant was told, all of it before the first poll, and each poll was answered; and a front of the session's text was
-- sent.
pub record IsSoFar (plant : PlantData) (panel : ℕ) (past : Progress) : Type 0 where
  pub turns : AreTurns panel past.turns
  pub ended : List (Item (List ℕ))
  pub end_in : EndIn (bytes_read past.turns) past.now.piece ended
  pub asked : List Asked
  pub ask : AllAsk ended asked
  pub told : IsPrefix (requests past.now.told) (sent_to_plant panel (item_count past.turns) asked)
  pub polls : All (λ entry. entry.request ≡ poll_now panel past) past.now.polls
  pub told_first : TellsFirst panel past asked
  pub within : length past.now.polls ≤ 32
  pub text : List ℕ
  pub is_text : IsText plant (items (read_so_far past)) (entries_so_far past) text
  pub sent : IsPrefix past.sent text

-- What was done so far begins a list of entries that fits the reads, of which the last is this piece.
pub record FitsOn (panel : ℕ) (past : Progress) (piece : List ℕ) : Type 0 where
  pub entries : List PlantEntry
  pub fits : FitsReads panel (map (λ turn. turn.piece) past.turns ++ piece ∷ []) entries
  pub front : IsPrefix (entries_so_far past) entries

-- A turn is over: it is one, and the session's whole text of what was read and answered was sent.
pub record IsOver (plant : PlantData) (panel : ℕ) (past : Progress) : Type 0 where
  pub turn : IsTurn panel past.turns past.now
  pub text : IsText plant (items (read_so_far past)) (entries_so_far past) past.sent
