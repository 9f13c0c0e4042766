-- What a lock shows.
use Rattle.std.specs.Prelude.{◌≡◌, ◌<◌, ℕ, false, List, [], Some, None, slice_get}
use Rattle.atomic_table.specs.Seated.{TableId}
use Rattle.history_lock.specs.declared.view.Start.{Start}
use Rattle.history_lock.specs.Seats.{SeatData}

-- which lock it is, the machine that it was made with, and how many seats it has
pub record LockData (State : Type 0) : Type 0 where
  pub id : TableId
  pub first : State
  pub seats : ℕ

-- what a lock shows, by its table
abbrev pub lock_data : {State : Type 0} → TableId → Start State → LockData State
lock_data id start = record { id = id; first = start.machine.value; seats = start.seats }

-- it was made with this machine, and has so many seats
abbrev pub IsLockOf : {State : Type 0} → State → ℕ → LockData State → Type 0
IsLockOf machine seats lock = (lock.first ≡ machine) × (lock.seats ≡ seats)

-- Its table has two words and one slot, and it knows its number of seats and the room of the machine that it was made with.
pub record IsLock {State : Type 0} (room_of : State → ℕ) (id : TableId) (start : Start State)
    (seats room : ℕ) : Type 0 where
  pub words : id.words ≡ 2
  pub slots : id.slots ≡ 1
  pub counted : seats ≡ start.seats
  pub some : 0 < seats
  pub roomy : room ≡ room_of start.machine.value

-- a seat that has seen nothing
abbrev pub new_seat : {State Request Answer : Type 0} → TableId → State → ℕ
    → SeatData State Request Answer
new_seat lock first number = record {
  lock = lock;
  first = first;
  number = number;
  seen = [];
  read = None;
  tried = [];
  ticket_full = false;
  serving_full = false;
}

-- Seats that have seen nothing stand in the order of their numbers, from 0 on and below a count.
abbrev pub AreNew : {State Request Answer : Type 0} → TableId → State → ℕ
    → List (SeatData State Request Answer) → Type 0
AreNew lock first count seats =
    (number : ℕ) → number < count → slice_get seats number ≡ Some (new_seat lock first number)
