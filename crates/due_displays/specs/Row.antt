-- The positions of one screen at which a display is due.
use Rattle.std.specs.Prelude.{◌≡◌, ℕ, ◌*◌, ◌/◌, ◌%◌, ◌≤◌, Bool, true, List, length, slice_index_or, Option, Some, None}
use Rattle.std.specs.FinSet.{empty, contains}
use Rattle.number_tables.specs.Numbers.{Numbers, small_limit}

-- sets of positions, so many to a set, one set behind the other
abbrev pub Row : Type 0
Row = List Numbers

-- for how many positions a row has room
abbrev pub row_room : Row → ℕ
row_room row = small_limit * length row

-- whether a display is due at a position
abbrev pub has_at : Row → ℕ → Bool
has_at row position =
    contains (slice_index_or row (position / small_limit) empty) (position % small_limit)

-- The lowest position of a row, none where it has none.
pub record IsLowestOf (row : Row) (found : Option ℕ) : Type 0 where
  pub there : (position : ℕ) → found ≡ Some position → has_at row position ≡ true
  pub least : (position other : ℕ) → found ≡ Some position → has_at row other ≡ true
      → position ≤ other
  pub none : (other : ℕ) → found ≡ None → has_at row other ≡ true → ⊥
