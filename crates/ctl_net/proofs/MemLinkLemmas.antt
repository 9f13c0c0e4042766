-- Reads of a link in memory.
use Rattle.std.proofs.Common.{◌≡◌, ℕ, ◌<◌, Bool, true, false, if◌then◌else◌, List, [], ◌∷◌, drop, Option, Some, refl, sym, ◌∙◌, ap}
use Rattle.ctl_io.specs.Calls.{called}
use Rattle.ctl_io.specs.Faults.{count_after}
use Rattle.ctl_io.specs.ReadHalf.{ReadHalf, Reading}
use Rattle.ctl_net.specs.Link.{given, GivesWithin, link_read_failed, after_link_read}
use Rattle.ctl_net.specs.LinkEvents.{bytes_of, ahead, first_answer, behind_first}
use Rattle.ctl_net.specs.MemLink.{InputState, after_first, read_half_of}
use Rattle.ctl_net.specs.declared.link_event.LinkEvent.{LinkEvent}
use Rattle.ctl_net.specs.declared.link_event.LinkEvent.TheVariants as event
use Rattle.ctl_net.specs.declared.link.LinkRead.TheVariants as read
use Rattle.ctl_net.proofs.LinkEventsLemmas.{is_ahead, bytes_ahead, bytes_behind, gives_within, ends_empty}

pub answers_within : (fails : Bool) (events : List LinkEvent) (room : ℕ) → 0 < room → GivesWithin (if fails then read.Failed else first_answer (ahead events) room) room
answers_within true events room some = tt
answers_within false events room some = gives_within (ahead events) room some (is_ahead events)

pub answers_end : (fails : Bool) (events : List LinkEvent) (room : ℕ) → (if fails then read.Failed else first_answer (ahead events) room) ≡ read.End → bytes_of events ≡ []
answers_end true events room ends = cc
answers_end false events room ends = sym (bytes_ahead events) ∙ ends_empty (ahead events) room ends

-- an event never fails
first_succeeds : (events : List LinkEvent) (room : ℕ) → link_read_failed (first_answer events room) ≡ false
first_succeeds [] room = refl
first_succeeds (event.Piece bytes ∷ events) room = refl
first_succeeds (event.Idle ∷ events) room = refl

abbrev half : Option (List ℕ) → Option (List Reading) → ℕ → ℕ → ReadHalf
half left reads faults idles = record {
  left = left;
  reads = reads;
  faults = faults;
  idles = idles;
}

same_half : (left left2 : List ℕ) (faults faults2 : ℕ) (reads : List Reading) (idles : ℕ) → left ≡ left2 → faults ≡ faults2 → half (Some left) (Some reads) faults idles ≡ half (Some left2) (Some reads) faults2 idles
same_half left left2 faults faults2 reads idles l f = rw l (rw f refl)

-- the read half after a read
pub half_after : (fails : Bool) (input : InputState) (room : ℕ) (into : List ℕ) → read_half_of (if fails then record input { calls = called true input.calls } else after_first (record input { events = ahead input.events; calls = called false input.calls }) room into) ≡ after_link_read (if fails then read.Failed else first_answer (ahead input.events) room) room into (read_half_of input)
half_after true input room into = refl
half_after false input room into =
    let left : bytes_of (behind_first (ahead input.events) room) ≡ drop (given (first_answer (ahead input.events) room)) (bytes_of input.events) = bytes_behind (ahead input.events) room ∙ ap (drop (given (first_answer (ahead input.events) room))) (bytes_ahead input.events) in
    let faults : input.calls.faults ≡ count_after (link_read_failed (first_answer (ahead input.events) room)) input.calls.faults = ap (λ failed. count_after failed input.calls.faults) (sym (first_succeeds (ahead input.events) room)) in
    same_half _ _ _ _ _ _ left faults
