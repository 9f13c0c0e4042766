-- A finite map from numbers to values, and the numbers for which there is room.
use Rattle.std.specs.Prelude.{ℕ, Option, Some, None, refl}
use Rattle.std.specs.Ordering.{nat_cmp}
use Rattle.std.specs.FinMap.{FinMap, insert, remove, code as map_code}
use Rattle.std.specs.Coded.{Coded, code_by, coded×, coded_ℕ}

-- values by number; a number that isn't in the map has none
abbrev pub Entries : Type 0 → Type 0
Entries V = FinMap nat_cmp V

-- values by number, and the room: each number below it may be given a value
pub record Table (V : Type 0) : Type 0 where
  pub entries : Entries V
  pub room : ℕ

-- a table is stored as the pair of its fields
abbrev pub code : {V : Type 0} → Coded V → Coded (Table V)
code {V} values =
    code_by (Entries V × ℕ) (coded× (map_code coded_ℕ values) coded_ℕ)
    (λ table. (table.entries, table.room)) (λ pair. record { entries = pair.0; room = pair.1 })
    (λ _. refl)

-- the entries with this value at a number, or without one there
abbrev pub put : {V : Type 0} → Entries V → ℕ → Option V → Entries V
put entries number None = remove entries number
put entries number (Some value) = insert entries number value
