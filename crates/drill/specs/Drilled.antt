-- What a drill leaves: what each of its panels told the plant, and what its sessions read.
use Rattle.std.specs.Prelude.{◌≡◌, ℕ, ◌/◌, Bool, true, false, if◌then◌else◌, List, [], ◌∷◌, filter}
use Rattle.std.specs.List.{flat_map, range_with_len}
use Rattle.history_lock.specs.History.{entries_of}
use Rattle.plant_core.specs.declared.request.Request.{Request}
use Rattle.plant_core.specs.declared.request.Request.TheVariants.{Told, Poll, Leave, DisplayPoll}
use Rattle.panel_session.specs.Entry.{PlantEntry}
use Rattle.panel_session.specs.Served.{all_read}
use Rattle.panel_session.specs.Turns.{FitsReads, requests}
use Rattle.drill.specs.Messages.{message_at}
use Rattle.drill.specs.Stream.{is_bad, stream}

-- the most messages that the panels of a drill send, all together
abbrev pub most_messages : ℕ
most_messages = 200000

-- how many of so many messages each of so many panels sends
abbrev pub share_of : ℕ → ℕ → ℕ
share_of messages panels = messages / panels

-- whether a request carries a message of a panel
abbrev pub is_told : Request → Bool
is_told (Told panel item message) = true
is_told (Poll panel item turn) = false
is_told (Leave panel) = false
is_told (DisplayPoll screen refresh) = false

-- what the panel with this seat told the plant in a history, in order
abbrev pub told_by : ℕ → List PlantEntry → List Request
told_by seat history = filter is_told (requests (entries_of seat history))

-- what the frame of this number of a panel tells the plant: its message, where it is a good frame
abbrev pub frame_tells : ℕ → ℕ → ℕ → List Request
frame_tells number panel at =
    if is_bad at then [] else Told panel at (message_at number panel at) ∷ []

-- what a panel that sends so many messages tells the plant: those of its good frames, in order
abbrev pub stream_tells : ℕ → ℕ → ℕ → List Request
stream_tells number panel count = flat_map (frame_tells number panel) (range_with_len 0 count)

-- The entries of a panel in a history fit the reads of a session that read all that the panel sent.
pub record FitsItsStream (number panel count : ℕ) (history : List PlantEntry) : Type 0 where
  pub reads : List (List ℕ)
  pub all : all_read reads ≡ stream number panel count
  pub fits : FitsReads panel reads (entries_of panel history)
