-- What is true of all finite maps from numbers, said by what each number has.
use Rattle.std.specs.Prelude.{◌≡◌, ◌≢◌, ℕ, Option}
use Rattle.std.specs.FinMap.{get}
use Rattle.number_tables.specs.Table.{Entries, put}

-- One number has this value now, or none, and every other number has what it had.
pub record ChangesOne {V : Type 0} (old new : Entries V) (number : ℕ) (value : Option V)
    : Type 0 where
  pub here : get new number ≡ value
  pub others : (n : ℕ) → n ≢ number → get new n ≡ get old n

-- To set a number gives it its value, or removes it, and changes nothing else.
abbrev pub PutChangesOne : {V : Type 0} → Entries V → Type 0
PutChangesOne {V} entries = (number : ℕ) (value : Option V)
    → ChangesOne entries (put entries number value) number value

-- What a number has already is put without any change.
abbrev pub PutAsItStands : {V : Type 0} → Entries V → Type 0
PutAsItStands entries = (number : ℕ) → put entries number (get entries number) ≡ entries
