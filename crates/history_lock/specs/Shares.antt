-- How the seats of a closed lock share its history. The function `seats_share_history` promises it.
use Rattle.std.specs.Prelude.{◌≢◌, ◌<◌, ◌==◌, ℕ, List, All, filter}
use Rattle.std.specs.List.{AllPairs, enumerate_from, flat_map}
use Rattle.std.specs.List.Sorted.{IsPermutation}
use mathlib.Core.List.{IsPrefix}
use Rattle.history_lock.specs.declared.entry.Entry.{Entry}
use Rattle.history_lock.specs.Calls.{HasOwn}
use Rattle.history_lock.specs.Closing.{HasAll}
use Rattle.history_lock.specs.Seats.{SeatData}

-- the own entries of a seat among those that it has seen, each with its position
abbrev pub own_entries : {State Request Answer : Type 0} → SeatData State Request Answer
    → List (ℕ × Entry Request Answer)
own_entries seat =
    filter (λ entry. entry.1.seat == seat.number) (enumerate_from 0 seat.seen)

-- no two seats have one number
abbrev pub AreApart : {State Request Answer : Type 0} → List (SeatData State Request Answer)
    → Type 0
AreApart seats = AllPairs (λ one other. one.number ≢ other.number) seats

-- Of seats of which `close` says what it says, and of which no two have one number: the own entries of all of them, one seat
-- after another, are those of the history, each once and at its position.
abbrev pub SeatsShareHistory : Type 0 → Type 0 → Type 0 → Type 0
SeatsShareHistory State Request Answer =
    (count : ℕ) (past : List (Entry Request Answer)) (seats : List (SeatData State Request Answer))
    → HasAll count seats → AreApart seats
    → All (λ seat. IsPrefix seat.seen past) seats → All (HasOwn past) seats
    → All (λ entry. entry.seat < count) past
    → IsPermutation (enumerate_from 0 past) (flat_map own_entries seats)
