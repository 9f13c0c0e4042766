-- Sets of numbers.
use Rattle.std.specs.Prelude.{◌≡◌, ℕ, ◌+◌, ◌*◌, ◌<◌, ◌==◌, min, List, [], ◌∷◌, Option, Some, None}
use Rattle.std.specs.Option.{option_map_or}
use Rattle.std.specs.Ordering.{nat_cmp}
use Rattle.std.specs.Int.{bit_at}
use Rattle.std.specs.FinSet.{FinSet, items, contains}

-- a set of numbers. It is the list of its members in order, each once, so that equal sets are one value.
abbrev pub Numbers : Type 0
Numbers = FinSet nat_cmp

-- how many numbers there are: the members of a set are below
abbrev pub number_limit : ℕ
number_limit = 65536

-- how many small numbers there are: the members of a small set are below
abbrev pub small_limit : ℕ
small_limit = 1024

-- the least of some numbers
abbrev pub least : List ℕ → Option ℕ
least [] = None
least (x ∷ xs) = Some (option_map_or (min x) (least xs) x)

-- the lowest member of a set
abbrev pub lowest : Numbers → Option ℕ
lowest numbers = least (items numbers)

-- how many words have a bit for each number
abbrev pub word_limit : ℕ
word_limit = 1024

-- A word has a bit for each of the 64 numbers from 64 times its place on: that of a member is set.
abbrev pub HasBitsOf : Numbers → ℕ → ℕ → Type 0
HasBitsOf numbers place word =
    (bit : ℕ) → bit < 64 → (bit_at word bit == 1) ≡ contains numbers (64 * place + bit)
