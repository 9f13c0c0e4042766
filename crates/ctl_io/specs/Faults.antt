-- Counts of faults: how often the calls of an object of the outside have failed.
use Rattle.std.specs.Prelude.{ℕ, ◌+◌, ◌-◌, ◌^◌, ◌≤◌, nat_lt, Bool, min, max, if◌then◌else◌}

-- One more, up to 2^64 - 1, where a count stands still.
abbrev pub one_more : ℕ → ℕ
one_more count = max count (min (count + 1) (2 ^ 64 - 1))

-- A count after a call: one more where the call failed, and as it was in every other case.
abbrev pub count_after : Bool → ℕ → ℕ
count_after failed count = if failed then one_more count else count

-- A count rose in a call: it is greater than before, or it stands at 2^64 - 1.
abbrev pub Rose : ℕ → ℕ → Type 0
Rose before now = min (before + 1) (2 ^ 64 - 1) ≤ now

-- An object whose count is so has met a fault.
abbrev pub is_faulty : ℕ → Bool
is_faulty count = nat_lt 0 count
