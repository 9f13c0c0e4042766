-- Numbers in decimal.
use Rattle.std.specs.Prelude.{◌≡◌, ℕ, ◌≤◌, List, All, length}
use Rattle.std.specs.Int.{IsInRange}
use Rattle.std.specs.Str.Parse.{digits_value}

-- the most digits of a number of 64 bits
abbrev pub most_digits : ℕ
most_digits = 20

-- the most digits that are read: they make less than 2^64, whatever they are
abbrev pub most_read : ℕ
most_read = 19

-- A byte is a decimal digit, `0` to `9`.
abbrev pub IsDigit : ℕ → Type 0
IsDigit byte = IsInRange 48 57 byte

-- Decimal digits, at least one, spell the number that they make, the highest first. There may be zeros in front.
pub record SpellsDecimal (digits : List ℕ) (number : ℕ) : Type 0 where
  pub some : 1 ≤ length digits
  pub each : All IsDigit digits
  pub number_is : number ≡ digits_value 10 digits

-- A text is empty, or a byte of it is no digit: it spells no number.
abbrev pub SpellsNoDecimal : List ℕ → Type 0
SpellsNoDecimal text = (number : ℕ) → SpellsDecimal text number → ⊥
