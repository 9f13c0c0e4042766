-- Tables of rows that become longer.
use Rattle.std.proofs.Common.{◌≡◌, ℕ, List, [], ◌∷◌, ◌++◌, Option, None, zero, suc, refl}
use Rattle.trace_audit.specs.RowsInside.{row_of_table}

-- An empty place behind the end changes no row.
pub row_more : {V : Type 0} (table : List (Option V)) (place : ℕ) → row_of_table (table ++ None ∷ []) place ≡ row_of_table table place
row_more [] zero = refl
row_more [] (suc place) = refl
row_more (row ∷ table) zero = refl
row_more (row ∷ table) (suc place) = row_more table place
