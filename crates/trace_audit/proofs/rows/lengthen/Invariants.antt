use Rattle.std.proofs.Common.{◌≡◌, ℕ, length, vec_capacity}
use Rattle.trace_audit.specs.RowsInside.{row_of_table}
use Rattle.trace_audit.proofs.rows.lengthen.Given as goal

-- Each turn makes the table longer by one empty place.
abbrev pub invariant-loop-count : goal.invariant-loop-count
invariant-loop-count g l = record {
  values : (other : ℕ) → row_of_table l.table.items other ≡ row_of_table l.fn.table.items other;
  length : l.count ≡ length l.table.items;
  room : vec_capacity l.table ≡ vec_capacity l.fn.table;
}
