-- The seats of a lock's table.
use Rattle.std.specs.Prelude.{◌≡◌, ℕ, Bool, true, false, List, [], ◌∷◌, ◌++◌, ◌<◌, Option, Some, None}
use Rattle.atomic_table.specs.Seated.{TableId}
use Rattle.history_lock.specs.declared.view.Stage.TheVariants.{Idle, Waits}
use Rattle.history_lock.specs.declared.entry.Entry.{Entry}
use Rattle.history_lock.specs.declared.view.View.{View}
use Rattle.history_lock.specs.declared.view.Start.{Start}
use Rattle.history_lock.specs.declared.view.Desk.{Desk}
use Rattle.history_lock.specs.declared.fault.TryFault.{TryFault}
use Rattle.history_lock.specs.declared.fault.TryFault.TheVariants.{Full, Busy}
use Rattle.history_lock.specs.Step.{Stepped}
use Rattle.history_lock.specs.Rule.{maker}
use Rattle.history_lock.specs.Plays.{Hand, number_of}
use Rattle.atomic_table.specs.declared.shared.Seat.{Seat}

-- it is a seat of this table, which has two words and one slot
abbrev pub IsAt : {S V : Type 0} → TableId → Seat S V → Type 0
IsAt id seat = (seat.table_id ≡ id) × (id.words ≡ 2) × (id.slots ≡ 1)

-- it is the same seat, whatever it knows
abbrev pub IsSame : {S V : Type 0} → Seat S V → Seat S V → Type 0
IsSame before after = (after.table_id ≡ before.table_id) × (after.id ≡ before.id)

-- it has this ticket, and no other change
abbrev pub IsQueued : {State Request Answer : Type 0} → Hand State Request Answer → ℕ
    → Hand State Request Answer → Type 0
IsQueued before ticket after =
    after ≡ (record before.0 { stage = Waits ticket; ticket_full = false }, before.1)

-- it read that there are no more tickets
abbrev pub IsFull : {State Request Answer : Type 0} → Hand State Request Answer
    → Hand State Request Answer → Type 0
IsFull before after = after ≡ (record before.0 { ticket_full = true }, before.1)

-- it has the ticket that it read of `serving`
abbrev pub IsSeized : {State Request Answer : Type 0} → Hand State Request Answer → ℕ
    → Hand State Request Answer → Type 0
IsSeized before ticket after =
    after ≡ (
      record before.0 {
        stage = Waits ticket;
        read = Some ticket;
        serving_full = false;
      },
      before.1,
    )

-- what a refused try leaves
abbrev pub IsTurnedAway : {State Request Answer : Type 0} → Hand State Request Answer → TryFault
    → Hand State Request Answer → Type 0
IsTurnedAway before Full after = after ≡ (record before.0 { serving_full = true }, before.1)
IsTurnedAway before (Busy serving ticket) after =
    (serving < ticket)
    × (after ≡ (
      record before.0 {
        serving_full = false;
        tried = before.0.tried ++ (serving, ticket) ∷ [];
      },
      before.1,
    ))

-- it is the maker of the seats of a new table
abbrev pub IsMakerOf : {State Request Answer : Type 0}
    → (State → Request → Stepped State Answer) → (State → Request → Type 0)
    → (State → ℕ)
    → TableId → Start State → Seat (Desk State Request) (View State Request Answer) → Type 0
IsMakerOf step Fits room id start place =
    (place.table_id ≡ id) × (place.me ≡ (maker step Fits room start, []))

-- What a seat shows: its lock; the machine that the lock was made with; the number under which it makes entries; the
-- history that it has seen; what it read of `serving` in a try that isn't over; of each of its refused tries, what it read
-- of `serving` and found at `ticket`; and whether it last read 2^62 of `ticket`, and of `serving`.
pub record SeatData (State Request Answer : Type 0) : Type 0 where
  pub lock : TableId
  pub first : State
  pub number : ℕ
  pub seen : List (Entry Request Answer)
  pub read : Option ℕ
  pub tried : List (ℕ × ℕ)
  pub ticket_full : Bool
  pub serving_full : Bool

-- what a seat shows, by what its place knows
abbrev pub seat_data : {State Request Answer : Type 0} → State → Seat (Desk State Request)
    (View State Request Answer) → SeatData State Request Answer
seat_data first seat = record {
  lock = seat.table_id;
  first = first;
  number = number_of seat.me.0;
  seen = seat.me.0.seen;
  read = seat.me.0.read;
  tried = seat.me.0.tried;
  ticket_full = seat.me.0.ticket_full;
  serving_full = seat.me.0.serving_full;
}

-- It is in no call, and has one number.
pub record IsResting {State Request Answer : Type 0} (first : State)
    (seat : Seat (Desk State Request) (View State Request Answer)) : Type 0 where
  pub first_is : seat.me.0.first ≡ Some first
  pub empty : seat.me.1 ≡ []
  pub idle : seat.me.0.stage ≡ Idle
  pub unread : seat.me.0.read ≡ None
  pub all_seen : seat.me.0.former ≡ []
  pub one_number : seat.me.0.numbers ≡ number_of seat.me.0 ∷ []

-- it is the same seat, and in no call
abbrev pub RestsAgain : {State Request Answer : Type 0} → State → Seat (Desk State Request)
    (View State Request Answer) → Seat (Desk State Request) (View State Request Answer) → Type 0
RestsAgain first before after = IsSame before after × IsResting first after

-- What a note shows: its lock, and the history that was seen.
pub record NoteData (Request Answer : Type 0) : Type 0 where
  pub lock : TableId
  pub seen : List (Entry Request Answer)

-- what a note shows, by what its place knows
abbrev pub note_data : {State Request Answer : Type 0} → Seat (Desk State Request)
    (View State Request Answer) → NoteData Request Answer
note_data note = record { lock = note.table_id; seen = note.me.0.seen }

-- It is in no call, and has no number.
pub record IsNote {State Request Answer : Type 0}
    (note : Seat (Desk State Request) (View State Request Answer)) : Type 0 where
  pub empty : note.me.1 ≡ []
  pub idle : note.me.0.stage ≡ Idle
  pub no_number : note.me.0.numbers ≡ []

-- it is a seat of this table, and in no call
abbrev pub IsIdleOf : {State Request Answer : Type 0} → TableId → Seat (Desk State Request)
    (View State Request Answer) → Type 0
IsIdleOf id seat = (seat.table_id ≡ id) × (seat.me.1 ≡ []) × (seat.me.0.stage ≡ Idle)

-- it is a note of this table, and in no call
abbrev pub IsNoteOf : {State Request Answer : Type 0} → TableId → Seat (Desk State Request)
    (View State Request Answer) → Type 0
IsNoteOf id note =
    (note.table_id ≡ id) × (note.me.1 ≡ []) × (note.me.0.stage ≡ Idle) × (note.me.0.numbers ≡ [])
