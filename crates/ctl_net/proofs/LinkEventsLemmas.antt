-- What comes over a link in memory.
use Rattle.std.proofs.Common.{◌≡◌, ℕ, ◌+◌, ◌<◌, true, false, List, [], ◌∷◌, ◌++◌, length, drop, min, refl, sym, ◌∙◌, ap, suc, get_or, Bool, leb, if◌then◌else◌, add-one, arith}
use Rattle.std.proofs.lemmas.Grind.{common_steps}
use Rattle.std.proofs.lemmas.List.{drop_at, drop-append-le}
use Rattle.std.proofs.lemmas.Bool.{leb-true, leb-false}
use Rattle.std.proofs.Math.Seq.{drop-cons}
use Rattle.ctl_net.specs.Link.{given, GivesWithin}
use Rattle.ctl_net.specs.LinkEvents.{bytes_of, ahead, is_empty_piece, IsAhead, first_answer, behind_first, most_reads}
use Rattle.ctl_net.specs.declared.link_event.LinkEvent.{LinkEvent}
use Rattle.ctl_net.specs.declared.link_event.LinkEvent.TheVariants as event
use Rattle.ctl_net.specs.declared.link.LinkRead.TheVariants as read

drop-none : (bytes : List ℕ) → drop 0 bytes ≡ bytes
drop-none bytes = refl

-- empty pieces have no bytes
pub bytes_ahead : (events : List LinkEvent) → bytes_of (ahead events) ≡ bytes_of events
bytes_ahead [] = refl
bytes_ahead (event.Piece [] ∷ events) = bytes_ahead events
bytes_ahead (event.Piece (byte ∷ bytes) ∷ events) = refl
bytes_ahead (event.Idle ∷ events) = refl

-- they are read by no read
pub most_ahead : (events : List LinkEvent) → most_reads (ahead events) ≡ most_reads events
most_ahead [] = refl
most_ahead (event.Piece [] ∷ events) = grind (arith, most_ahead events)
most_ahead (event.Piece (byte ∷ bytes) ∷ events) = refl
most_ahead (event.Idle ∷ events) = refl

pub is_ahead : (events : List LinkEvent) → IsAhead (ahead events)
is_ahead [] = tt
is_ahead (event.Piece [] ∷ events) = is_ahead events
is_ahead (event.Piece (byte ∷ bytes) ∷ events) = grind (arith, common_steps)
is_ahead (event.Idle ∷ events) = tt

pub ahead_empty : (one : LinkEvent) (events : List LinkEvent) → is_empty_piece one ≡ true → ahead (one ∷ events) ≡ ahead events
ahead_empty (event.Piece []) events empty = refl
ahead_empty (event.Piece (byte ∷ bytes)) events empty = cc
ahead_empty event.Idle events empty = cc

pub ahead_full : (one : LinkEvent) (events : List LinkEvent) → is_empty_piece one ≡ false → ahead (one ∷ events) ≡ one ∷ events
ahead_full (event.Piece []) events full = cc
ahead_full (event.Piece (byte ∷ bytes)) events full = refl
ahead_full event.Idle events full = refl

pub ahead_piece : (bytes : List ℕ) (events : List LinkEvent) → 0 < length bytes → ahead (event.Piece bytes ∷ events) ≡ event.Piece bytes ∷ events
ahead_piece [] events some = absurd (omega arith)
ahead_piece (byte ∷ bytes) events some = refl

-- an event and those behind it
pub from_event : (events : List LinkEvent) (at : ℕ) (one : LinkEvent) → at < length events → one ≡ get_or events at one → drop at events ≡ one ∷ drop (at + 1) events
from_event events at one here is =
    drop-cons events at one here ∙ (ap (λ first. first ∷ drop (suc at) events) (sym is) ∙ ap (λ n. one ∷ drop n events) (sym (add-one at)))

pub most_more : (events : List LinkEvent) (one : LinkEvent) → most_reads (events ++ one ∷ []) ≡ most_reads events + most_reads (one ∷ [])
most_more [] one = grind arith
most_more (event.Piece bytes ∷ events) one = grind (arith, most_more events one)
most_more (event.Idle ∷ events) one = grind (arith, most_more events one)

-- the rest of the first piece, and the events behind it
behind_piece : (bytes : List ℕ) (events : List LinkEvent) (room : ℕ) (fits : Bool) → leb (length bytes) room ≡ fits → bytes_of (if fits then events else event.Piece (drop room bytes) ∷ events) ≡ drop (min room (length bytes)) (bytes ++ bytes_of events)
behind_piece bytes events room true fits =
    let all : min room (length bytes) ≡ length bytes = omega (arith, leb-true (length bytes) room fits) in
    rw all (sym (drop_at bytes (bytes_of events) (length bytes) refl))
behind_piece bytes events room false fits =
    let longer : room < length bytes = leb-false (length bytes) room fits in
    let part : min room (length bytes) ≡ room = omega (arith, longer) in
    rw part (sym (drop-append-le room bytes (bytes_of events) (omega (arith, longer))))

-- a read gives what is next, and leaves the rest
pub bytes_behind : (events : List LinkEvent) (room : ℕ) → bytes_of (behind_first events room) ≡ drop (given (first_answer events room)) (bytes_of events)
bytes_behind [] room = refl
bytes_behind (event.Piece bytes ∷ events) room = behind_piece bytes events room (leb (length bytes) room) refl
bytes_behind (event.Idle ∷ events) room = sym (drop-none (bytes_of events))

pub gives_within : (events : List LinkEvent) (room : ℕ) → 0 < room → IsAhead events → GivesWithin (first_answer events room) room
gives_within [] room some first = tt
gives_within (event.Piece bytes ∷ events) room some first = (grind arith, grind arith)
gives_within (event.Idle ∷ events) room some first = tt

pub ends_empty : (events : List LinkEvent) (room : ℕ) → first_answer events room ≡ read.End → bytes_of events ≡ []
ends_empty [] room ends = refl
ends_empty (event.Piece bytes ∷ events) room ends = cc
ends_empty (event.Idle ∷ events) room ends = cc
