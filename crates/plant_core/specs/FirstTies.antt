-- How the ties of a text are looked at in few steps: the first destination that has a tie of a pool, and the first one that
-- comes from an origin by a pool, stand for all later ones.
use Rattle.std.specs.Prelude.{◌≡◌, ℕ, ◌+◌, ◌*◌, ◌^◌, ◌<◌, ◌==◌, nat_lt, true, if◌then◌else◌, List, Option, Some, None}
use Rattle.std.specs.Option.{option_or}
use Rattle.std.specs.Ordering.{nat_cmp}
use Rattle.std.specs.BTreeMap.{BTreeMap, get}
use Rattle.plant_config.specs.Plant.{PlantData}
use Rattle.plant_core.specs.StateFault.{pool_in, tie_in, origin_in, tie_holds}

-- the number that tells a pool with one of its ties, or with an origin, from all others
abbrev pub key_number : ℕ → ℕ → ℕ
key_number pool number = pool * 2 ^ 32 + number

abbrev pub key_of : Option ℕ → Option ℕ → Option ℕ
key_of None number = None
key_of (Some pool) None = None
key_of (Some pool) (Some number) =
    if nat_lt number (2 ^ 32) then Some (key_number pool number) else None

unfoldable pub tie_key : PlantData → List ℕ → ℕ → Option ℕ
tie_key plant bytes dest = key_of (pool_in plant bytes dest) (tie_in bytes dest)

unfoldable pub origin_key : PlantData → List ℕ → ℕ → Option ℕ
origin_key plant bytes dest = key_of (pool_in plant bytes dest) (origin_in plant bytes dest)

-- For each key of a destination below a count there is one that has it, also below.
pub record AreFirsts (key : ℕ → Option ℕ) (count : ℕ) (firsts : BTreeMap ℕ ℕ) : Type 0 where
  pub known : (dest number : ℕ) → dest < count → key dest ≡ Some number
      → (first : ℕ) × (get nat_cmp firsts number ≡ Some first)
  pub first : (number dest : ℕ) → get nat_cmp firsts number ≡ Some dest
      → (dest < count) × (key dest ≡ Some number)

-- Both are so of all destinations below one.
pub record AreFirstsOf (plant : PlantData) (bytes : List ℕ) (count : ℕ)
    (by_tie by_origin : BTreeMap ℕ ℕ) : Type 0 where
  pub ties : AreFirsts (tie_key plant bytes) count by_tie
  pub origins : AreFirsts (origin_key plant bytes) count by_origin

-- The ties of all destinations below one keep the rules.
abbrev pub HoldBelow : PlantData → List ℕ → ℕ → Type 0
HoldBelow plant bytes count = (dest : ℕ) → dest < count → tie_holds plant bytes dest ≡ true

-- A destination came to a number, unless one was there.
abbrev pub ComesFirst : BTreeMap ℕ ℕ → BTreeMap ℕ ℕ → ℕ → ℕ → Type 0
ComesFirst old new number dest = (at : ℕ) → get nat_cmp new at
    ≡ option_or (get nat_cmp old at) (if at == number then Some dest else None)
