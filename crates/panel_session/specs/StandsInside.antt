-- What a session keeps of its past.
use Rattle.std.specs.Prelude.{◌≡◌, ◌≢◌, ℕ, ◌+◌, ◌<◌, ◌≤◌, List, [], ◌∷◌, ◌++◌, length, All, None}
use Rattle.std.specs.Prelude.{IsSome}
use Rattle.dle_framing.specs.declared.item.Item.{Item}
use Rattle.dle_framing.specs.Items.{items}
use Rattle.plant_config.specs.Plant.{PlantData}
use Rattle.plant_core.specs.State.{IsForPlant}
use Rattle.panel_session.specs.declared.session.asked.Asked.{Asked}
use Rattle.panel_session.specs.declared.session.asked.Asked.TheVariants.{Nothing, Repeat, Refused, Noted, Named, Sent}
use Rattle.panel_session.specs.declared.session.phase.Phase.{Phase}
use Rattle.panel_session.specs.declared.session.phase.Phase.TheVariants.{Read, Name, Tell, Poll as PollStage, End}
use Rattle.panel_session.specs.Entry.{PlantEntry}
use Rattle.panel_session.specs.Asked.{AllAsk, sent_to_plant}
use Rattle.panel_session.specs.Turns.{bytes_read, requests, item_count, EndIn, AreTurns, ArePolls}
use Rattle.panel_session.specs.Text.{Output, nothing_sent, output_from, told_at, polled_at}
use Rattle.panel_session.specs.OutgoingInside.{emptied}
use Rattle.panel_session.specs.SoFar.{Progress, read_so_far, entries_so_far, poll_now}

-- what a session keeps beside its framer and its outbox
pub record Kept : Type 0 where
  pub panel : ℕ
  pub phase : Phase
  pub items : ℕ
  pub turns : ℕ
  pub polls : ℕ
  pub output : Output

-- What an item sent to the plant has its entry.
abbrev pub IsTold : ℕ → Asked → List PlantEntry → Type 0
IsTold item (Sent message) entries = IsSome (told_at item entries)
IsTold item Nothing entries = Unit {0}
IsTold item Repeat entries = Unit {0}
IsTold item Refused entries = Unit {0}
IsTold item Noted entries = Unit {0}
IsTold item (Named message) entries = Unit {0}

-- So it is with each item from this number on.
abbrev pub AllTold : ℕ → List Asked → List PlantEntry → Type 0
AllTold item [] entries = Unit {0}
AllTold item (asked ∷ others) entries =
    IsTold item asked entries × AllTold (item + 1) others entries

-- No entry is of an item from this number on, or of a poll behind it.
pub record NoneFrom (item : ℕ) (entries : List PlantEntry) : Type 0 where
  pub told : (k : ℕ) → item ≤ k → told_at k entries ≡ None
  pub polled : (k : ℕ) → item < k → polled_at k entries ≡ []

-- an output with these bytes before its own
abbrev pub behind : List ℕ → Output → Output
behind before output = record output { bytes = before ++ output.bytes }

-- The polls of a turn so far were answered, and may go on.
pub record MayPoll (polls : List PlantEntry) : Type 0 where
  pub answered : All (λ entry. entry.answers ≢ []) polls
  pub more : length polls < 32

-- What was told and polled in a turn, by what comes next. `first` is the number of the turn's first item.
abbrev pub IsAtStage : Phase → ℕ → ℕ → List Asked → List Asked → Progress → Type 0
IsAtStage Read panel first before asked past =
    (requests past.now.told ≡ sent_to_plant panel first asked)
    × (past.now.polls ≡ [])
    × AllTold 0 (before ++ asked) (entries_so_far past)
IsAtStage (Name page) panel first before asked past = ⊥
IsAtStage (Tell message) panel first before asked past =
    (front : List Asked)
    × (asked ≡ front ++ Sent message ∷ [])
    × (requests past.now.told ≡ sent_to_plant panel first front)
    × (past.now.polls ≡ [])
    × AllTold 0 (before ++ front) (entries_so_far past)
    × NoneFrom (first + length front) (entries_so_far past)
    × IsForPlant message
IsAtStage PollStage panel first before asked past =
    (requests past.now.told ≡ sent_to_plant panel first asked)
    × MayPoll past.now.polls
    × AllTold 0 (before ++ asked) (entries_so_far past)
IsAtStage End panel first before asked past =
    (requests past.now.told ≡ sent_to_plant panel first asked)
    × ArePolls (poll_now panel past) past.now.polls
    × AllTold 0 (before ++ asked) (entries_so_far past)

-- the output of what was done so far, where the items that were read ask so
abbrev pub output_so_far : PlantData → Progress → List Asked → Output
output_so_far plant past asked = output_from plant 0 asked (entries_so_far past) nothing_sent

-- What is kept stands for this past of a session of this plant: all that it made was sent.
pub record Keeps (plant : PlantData) (kept : Kept) (past : Progress) : Type 0 where
  pub turns : AreTurns kept.panel past.turns
  pub before : List Asked
  pub ask_before : AllAsk (items (bytes_read past.turns)) before
  pub ended : List (Item (List ℕ))
  pub end_in : EndIn (bytes_read past.turns) past.now.piece ended
  pub asked : List Asked
  pub ask : AllAsk ended asked
  pub items_are : kept.items ≡ length (items (read_so_far past))
  pub turns_are : kept.turns ≡ length past.turns
  pub polls_are : kept.polls ≡ length past.now.polls
  pub within : length past.now.polls ≤ 32
  pub polls : All (λ entry. entry.request ≡ poll_now kept.panel past) past.now.polls
  pub phase : IsAtStage kept.phase kept.panel (item_count past.turns) before asked past
  pub none_from : NoneFrom (length (items (read_so_far past))) (entries_so_far past)
  pub output : output_so_far plant past (before ++ asked) ≡ behind past.sent (emptied kept.output)
