-- The fields of the read half of a link in memory.
use Rattle.std.specs.Prelude.{◌≡◌, ℕ, ◌+◌, ◌<◌, ◌≤◌, List, [], ◌∷◌, length, take, drop, vec_capacity}
use Rattle.ctl_io.specs.ReadHalf.{Reading}
use Rattle.ctl_net.specs.LinkEvents.{bytes_of, most_reads}
use Rattle.ctl_net.specs.MemLink.{InputState}
use Rattle.ctl_net.specs.declared.link_event.LinkEvent.{LinkEvent}
use Rattle.ctl_net.specs.declared.link_event.LinkEvent.TheVariants as event
use Rattle.ctl_net.specs.declared.memory.mem_input.PastRead.{PastRead}
use Rattle.ctl_net.specs.declared.memory.mem_input.MemInput.TheInside.{Inside}

-- the events without the first bytes of the first piece
abbrev pub cut_first : ℕ → List LinkEvent → List LinkEvent
cut_first n [] = []
cut_first n (event.Piece bytes ∷ events) = event.Piece (drop n bytes) ∷ events
cut_first n (event.Idle ∷ events) = event.Idle ∷ events

-- Only of a piece that is longer so many bytes were given.
abbrev pub FitsFirst : ℕ → List LinkEvent → Type 0
FitsFirst n [] = n ≡ 0
FitsFirst n (event.Piece bytes ∷ events) = 0 < n → n < length bytes
FitsFirst n (event.Idle ∷ events) = n ≡ 0

-- how many bytes these reads gave
abbrev pub counted : List PastRead → ℕ
counted [] = 0
counted (one ∷ told) = one.count + counted told

-- the reads, of which these are the rooms and the counts, and all the bytes
abbrev pub readings : List PastRead → List ℕ → List Reading
readings [] bytes = []
readings (one ∷ told) bytes =
    record { room = one.room; bytes = take one.count bytes } ∷ readings told (drop one.count bytes)

-- the events that are left
abbrev pub left_events : Inside → List LinkEvent
left_events input = cut_first input.given (drop input.at input.events.items)

-- the read half, without where it lies in memory
abbrev pub input_state : Inside → InputState
input_state input = record {
  events = left_events input;
  reads = readings input.told.items (bytes_of input.events.items);
  idles = input.idles;
  calls = input.calls;
}

-- What was told is all that was given: behind it lies what is left.
abbrev pub IsAllTold : Inside → Type 0
IsAllTold input =
    drop (counted input.told.items) (bytes_of input.events.items) ≡ bytes_of (left_events input)

-- There is room for each read that may still be told.
abbrev pub HasRoom : Inside → Type 0
HasRoom input =
    length input.told.items + most_reads (left_events input) ≤ vec_capacity input.told

-- The place lies within the events.
pub record IsAt (input : Inside) : Type 0 where
  pub within : input.at ≤ length input.events.items
  pub first : FitsFirst input.given (drop input.at input.events.items)
  pub told : IsAllTold input
  pub room : HasRoom input
