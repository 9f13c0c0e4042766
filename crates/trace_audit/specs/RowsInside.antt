-- What row a position has.
use Rattle.std.specs.Prelude.{◌≡◌, ◌≢◌, ℕ, nat_lt, is_some, if◌then◌else◌, List, slice_get, vec_capacity, Option, Some}
use Rattle.std.specs.Option.{option_flatten}
use Rattle.std.specs.Ordering.{nat_cmp}
use Rattle.std.specs.BTreeMap.{get}
use Rattle.trace_audit.specs.declared.rows.Rows.{Rows}

-- the row at a place of a table, `None` also past the end
abbrev pub row_of_table : {V : Type 0} → List (Option V) → ℕ → Option V
row_of_table table place = option_flatten (slice_get table place)

-- the row of a position: of the table where that has room for the place, else of the map
abbrev pub row_at : {V : Type 0} → Rows V → ℕ → Option V
row_at rows position = if nat_lt position (vec_capacity rows.table)
    then row_of_table rows.table.items position
    else get nat_cmp rows.others position

-- A value was put at a position: the first one where there was none before, else the other one. The values at other positions
-- stay.
pub record IsPut {V : Type 0} (old new : ℕ → Option V) (position : ℕ) (first other : V)
    : Type 0 where
  pub here : new position ≡ Some (if is_some (old position) then other else first)
  pub others : (place : ℕ) → place ≢ position → new place ≡ old place
