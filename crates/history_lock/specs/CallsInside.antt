-- What a turn leaves, whatever the words were that the seat read before.
use Rattle.std.specs.Prelude.{ℕ, List}
use Rattle.atomic_table.specs.declared.shared.Seat.{Seat}
use Rattle.history_lock.specs.declared.fault.TryFault.{TryFault}
use Rattle.history_lock.specs.declared.view.Desk.{Desk}
use Rattle.history_lock.specs.declared.view.View.{View}
use Rattle.history_lock.specs.Step.{Stepped}
use Rattle.history_lock.specs.History.{IsLegal}
use Rattle.history_lock.specs.Seats.{SeatData, seat_data}
use Rattle.history_lock.specs.Calls.{SeesAnswers, AddsOwn, IsNumbered, OnlyCalled, OnlyTried, FoundFull, IsRefused}

-- of what a seat shows before a call, and behind it
module _ {State Request Answer : Type 0} (step : State → Request → Stepped State Answer)
    (Fits : State → Request → Type 0)
    (before after : SeatData State Request Answer) where
  -- The call of this number was made: it asked this, and was answered so.
  pub record IsMade (n : ℕ) (request : Request) (answers : List Answer) : Type 0 where
    pub legal : IsLegal step Fits before.first after.seen
    pub numbered : IsNumbered n after.seen
    pub goes_on : SeesAnswers before request answers after
    pub own : AddsOwn before request answers after

-- a seat's place: what its table knows of it
abbrev pub Place : Type 0 → Type 0 → Type 0 → Type 0
Place State Request Answer = Seat (Desk State Request) (View State Request Answer)

-- the same of what the seat's place shows, before the call and behind it
abbrev pub IsMadeAt : {State Request Answer : Type 0}
    → (State → Request → Stepped State Answer) → (State → Request → Type 0)
    → State → Place State Request Answer → ℕ → Request → List Answer → Place State Request Answer
    → Type 0
IsMadeAt step Fits first before n request answers after =
    IsMade step Fits (seat_data first before) (seat_data first after) n request answers

module _ {State Request Answer : Type 0} (first : State) (before : Place State Request Answer) where
  abbrev pub OnlyCalledAt : Place State Request Answer → Type 0
  OnlyCalledAt after = OnlyCalled (seat_data first before) (seat_data first after)

  abbrev pub OnlyTriedAt : Place State Request Answer → Type 0
  OnlyTriedAt after = OnlyTried (seat_data first before) (seat_data first after)

  abbrev pub FoundFullAt : Place State Request Answer → Type 0
  FoundFullAt after = FoundFull (seat_data first before) (seat_data first after)

  abbrev pub IsRefusedAt : TryFault → Place State Request Answer → Type 0
  IsRefusedAt fault after = IsRefused (seat_data first before) fault (seat_data first after)
