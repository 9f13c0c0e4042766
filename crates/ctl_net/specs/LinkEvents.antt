-- What comes over a link in memory.
use Rattle.std.specs.Prelude.{ℕ, ◌+◌, ◌<◌, Bool, true, false, List, [], ◌∷◌, ◌++◌, length, drop, min, nat_le, if◌then◌else◌}
use Rattle.ctl_net.specs.declared.link_event.LinkEvent.{LinkEvent}
use Rattle.ctl_net.specs.declared.link_event.LinkEvent.TheVariants as event
use Rattle.ctl_net.specs.declared.link.LinkRead.{LinkRead}
use Rattle.ctl_net.specs.declared.link.LinkRead.TheVariants as read

-- the bytes of the pieces, joined
abbrev pub bytes_of : List LinkEvent → List ℕ
bytes_of [] = []
bytes_of (event.Piece bytes ∷ events) = bytes ++ bytes_of events
bytes_of (event.Idle ∷ events) = bytes_of events

-- whether an event is a piece without bytes
abbrev pub is_empty_piece : LinkEvent → Bool
is_empty_piece (event.Piece []) = true
is_empty_piece (event.Piece (byte ∷ bytes)) = false
is_empty_piece event.Idle = false

-- the events without the empty pieces in front of them
abbrev pub ahead : List LinkEvent → List LinkEvent
ahead [] = []
ahead (event.Piece [] ∷ events) = ahead events
ahead (event.Piece (byte ∷ bytes) ∷ events) = event.Piece (byte ∷ bytes) ∷ events
ahead (event.Idle ∷ events) = event.Idle ∷ events

-- No empty piece stands in front of the events.
abbrev pub IsAhead : List LinkEvent → Type 0
IsAhead [] = Unit {0}
IsAhead (event.Piece bytes ∷ events) = 0 < length bytes
IsAhead (event.Idle ∷ events) = Unit {0}

-- what a read with so much room finds in the first event
abbrev pub first_answer : List LinkEvent → ℕ → LinkRead
first_answer [] room = read.End
first_answer (event.Piece bytes ∷ events) room = read.Got (min room (length bytes))
first_answer (event.Idle ∷ events) room = read.Idle

-- the events behind such a read: of a piece that is longer than the room its rest is left, and every other one is gone
abbrev pub behind_first : List LinkEvent → ℕ → List LinkEvent
behind_first [] room = []
behind_first (event.Piece bytes ∷ events) room =
    if nat_le (length bytes) room then events else event.Piece (drop room bytes) ∷ events
behind_first (event.Idle ∷ events) room = events

-- how many reads give bytes or are idle, at most: one for each byte and one for each idle event
abbrev pub most_reads : List LinkEvent → ℕ
most_reads [] = 0
most_reads (event.Piece bytes ∷ events) = length bytes + most_reads events
most_reads (event.Idle ∷ events) = 1 + most_reads events
