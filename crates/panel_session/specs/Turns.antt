-- The turns of a session: which requests a session makes of what it reads.
use Rattle.std.specs.Prelude.{◌≡◌, ◌≢◌, ◌⊎◌, ℕ, ◌≤◌, List, [], ◌∷◌, ◌++◌, length, map, All}
use Rattle.std.specs.List.{flat_map}
use Rattle.dle_framing.specs.declared.item.Item.{Item}
use Rattle.dle_framing.specs.Items.{items}
use Rattle.plant_core.specs.declared.request.Request.{Request}
use Rattle.plant_core.specs.declared.request.Request.TheVariants.{Poll}
use Rattle.panel_session.specs.Entry.{PlantEntry}
use Rattle.panel_session.specs.declared.session.asked.Asked.{Asked}
use Rattle.panel_session.specs.Asked.{AllAsk, sent_to_plant}

-- One turn: the piece that was read, empty where the panel was idle, the entries of what the panel sent to the plant, and
-- the polls for notices.
pub record Turn : Type 0 where
  pub piece : List ℕ
  pub told : List PlantEntry
  pub polls : List PlantEntry

-- the bytes that were read
abbrev pub bytes_read : List Turn → List ℕ
bytes_read turns = flat_map (λ turn. turn.piece) turns

-- the entries of a turn, and of turns, in order
abbrev pub entries_in : Turn → List PlantEntry
entries_in turn = turn.told ++ turn.polls

abbrev pub entries_of_turns : List Turn → List PlantEntry
entries_of_turns turns = flat_map entries_in turns

-- what entries asked of the plant
abbrev pub requests : List PlantEntry → List Request
requests entries = map (λ entry. entry.request) entries

-- how many items were read in turns
abbrev pub item_count : List Turn → ℕ
item_count turns = length (items (bytes_read turns))

-- the poll that a turn with this piece makes behind others: it has the number of items so far, and that of the turn
abbrev pub poll_behind : ℕ → List Turn → List ℕ → Request
poll_behind panel before piece =
    Poll panel (length (items (bytes_read before ++ piece))) (length before)

-- A turn polls until a poll has no answer, and at most 32 times.
pub record ArePolls (poll : Request) (polls : List PlantEntry) : Type 0 where
  pub answered : List PlantEntry
  pub last : PlantEntry
  pub polls_are : polls ≡ answered ++ last ∷ []
  pub each : All (λ entry. (entry.request ≡ poll) × (entry.answers ≢ [])) answered
  pub last_poll : last.request ≡ poll
  pub within : length polls ≤ 32
  pub ends : (last.answers ≡ []) ⊎ (length polls ≡ 32)

-- These items end in a piece behind a text. [profile]
abbrev pub EndIn : List ℕ → List ℕ → List (Item (List ℕ)) → Type 0
EndIn text piece ended = items (text ++ piece) ≡ items text ++ ended

-- A turn behind others of this panel: first what the items that end in its piece send to the plant, each with its number,
-- then the polls, with the number of items so far and that of the turn.
pub record IsTurn (panel : ℕ) (before : List Turn) (turn : Turn) : Type 0 where
  pub ended : List (Item (List ℕ))
  pub end_in : EndIn (bytes_read before) turn.piece ended
  pub asked : List Asked
  pub ask : AllAsk ended asked
  pub told : requests turn.told ≡ sent_to_plant panel (item_count before) asked
  pub polls : ArePolls (poll_behind panel before turn.piece) turn.polls

-- Each turn of a session, in its place, is one.
abbrev pub AreTurns : ℕ → List Turn → Type 0
AreTurns panel turns = (before after : List Turn) (turn : Turn) → turns ≡ before ++ turn ∷ after
    → IsTurn panel before turn

-- These entries fit these reads of a panel's session: they are made turn by turn.
pub record FitsReads (panel : ℕ) (reads : List (List ℕ)) (entries : List PlantEntry) : Type 0 where
  pub turns : List Turn
  pub are_turns : AreTurns panel turns
  pub pieces : map (λ turn. turn.piece) turns ≡ reads
  pub entries_are : entries_of_turns turns ≡ entries
