-- How seats are joined, one after another, into one.
use Rattle.std.specs.Prelude.{◌≡◌, ◌⊎◌, ℕ, ◌<◌, ◌≤◌, ◌^◌, true, length, All, Contains}
use mathlib.Core.List.{IsPrefix}
use Rattle.history_lock.specs.declared.view.Former.{Former}
use Rattle.history_lock.specs.declared.view.View.{View}
use Rattle.history_lock.specs.declared.view.Start.{Start}
use Rattle.history_lock.specs.Step.{Stepped}
use Rattle.history_lock.specs.History.{run, IsLegal, entries_of}
use Rattle.history_lock.specs.Seats.{SeatData}

-- of what a view knows of a seat
module _ {State Request Answer : Type 0} (v : View State Request Answer)
    (seat : SeatData State Request Answer) where
  -- a view was joined that saw this, under this number
  abbrev pub IsFormer : Type 0
  IsFormer = (former : Former Request Answer) × Contains v.former former × (former.seen ≡ seat.seen)
      × Contains former.numbers seat.number

  -- The seat was joined to the view, or is the one that others are joined to.
  pub record IsTaken : Type 0 where
    pub number : Contains v.numbers seat.number
    pub seen : (v.seen ≡ seat.seen) ⊎ IsFormer
    pub ticket_full : seat.ticket_full ≡ true → v.ticket_full ≡ true
    pub serving_full : seat.serving_full ≡ true → v.serving_full ≡ true

  -- The view knows what the seat saw, and has seen no other entry under its number.
  pub record Covers : Type 0 where
    pub number : Contains v.numbers seat.number
    pub seen : IsPrefix seat.seen v.seen
    pub own : entries_of seat.number v.seen ≡ entries_of seat.number seat.seen
    pub ticket_full : seat.ticket_full ≡ true → v.ticket_full ≡ true
    pub serving_full : seat.serving_full ≡ true → v.serving_full ≡ true

-- The view has seen the whole history, and this machine and this count are what it leaves.
pub record IsEnded {State Request Answer : Type 0} (step : State → Request → Stepped State Answer)
    (Fits : State → Request → Type 0) (start : Start State) (v : View State Request Answer)
    (machine : State) (entries : ℕ) : Type 0 where
  pub legal : IsLegal step Fits start.machine.value v.seen
  pub machine_is : machine ≡ run step start.machine.value v.seen
  pub entries_are : entries ≡ length v.seen
  pub limit : entries ≤ 2 ^ 62
  pub by_seats : All (λ entry. entry.seat < start.seats) v.seen
  pub ticket_full : v.ticket_full ≡ true → entries ≡ 2 ^ 62
  pub serving_full : v.serving_full ≡ true → entries ≡ 2 ^ 62
