-- How the notices of a panel are read, many at once: as the bits of words.
use Rattle.std.specs.Prelude.{◌≡◌, ℕ, ◌+◌, ◌*◌, ◌<◌, List}
use Rattle.std.specs.Int.{bit_at}
use Rattle.change_boards.specs.declared.sort.Sort.{Sort}
use Rattle.change_boards.specs.declared.sort.Sort.TheVariants.{Source, Protect}
use Rattle.plant_core.specs.StateFields.{byte_at}

-- the bit of a sort of notices in the byte of a destination
abbrev pub bit_of : Sort → ℕ
bit_of Source = 0
bit_of Protect = 1

-- A number has a bit for each of so many destinations whose bytes stand from a place on: that of its notice of a sort.
abbrev pub HasMarks : List ℕ → ℕ → Sort → ℕ → ℕ → Type 0
HasMarks bytes place sort count number =
    (at : ℕ) → at < count → bit_at number at ≡ bit_at (byte_at bytes (place + at)) (bit_of sort)

-- A number has the bits of eight bytes that stand from a place on, those of the first lowest.
abbrev pub HasBytes : List ℕ → ℕ → ℕ → Type 0
HasBytes bytes place number =
    (at bit : ℕ) → at < 8 → bit < 8
    → bit_at number (8 * at + bit) ≡ bit_at (byte_at bytes (place + at)) bit

-- A number has the lowest bits of the eight bytes of another.
abbrev pub HasLowest : ℕ → ℕ → Type 0
HasLowest eight number = (at : ℕ) → at < 8 → bit_at number at ≡ bit_at eight (8 * at)
