-- What a closed lock leaves.
use Rattle.std.specs.Prelude.{◌≡◌, ℕ, ◌<◌, ◌^◌, true, List, map, Contains}
use Rattle.atomic_table.specs.Seated.{TableId}
use Rattle.history_lock.specs.Seats.{SeatData}

-- Of each number below a count there is a seat.
abbrev pub HasAll : {State Request Answer : Type 0} → ℕ → List (SeatData State Request Answer)
    → Type 0
HasAll count seats = (n : ℕ) → n < count → Contains (map (λ seat. seat.number) seats) n

-- It is a seat of this lock.
abbrev pub IsOf : {State Request Answer : Type 0} → TableId → SeatData State Request Answer
    → Type 0
IsOf lock seat = seat.lock ≡ lock

-- Where the seat last read 2^62 of `ticket`, there are 2^62 entries.
abbrev pub FullByTicket : {State Request Answer : Type 0} → ℕ → SeatData State Request Answer
    → Type 0
FullByTicket entries seat = seat.ticket_full ≡ true → entries ≡ 2 ^ 62

-- Where the seat last read 2^62 of `serving`, there are 2^62 entries.
abbrev pub FullByServing : {State Request Answer : Type 0} → ℕ → SeatData State Request Answer
    → Type 0
FullByServing entries seat = seat.serving_full ≡ true → entries ≡ 2 ^ 62
