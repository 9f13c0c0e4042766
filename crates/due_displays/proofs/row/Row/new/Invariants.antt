use Rattle.std.proofs.Common.{◌≡◌, ℕ, false, length, get_or}
use Rattle.std.specs.FinSet.{empty, contains}
use Rattle.due_displays.proofs.row.Row.new.Given as goal

abbrev pub invariant-loop-set : goal.invariant-loop-set
invariant-loop-set l = record {
  count : length l.sets.items ≡ l._set;
  none : (set position : ℕ) → contains (get_or l.sets.items set empty) position ≡ false;
}
