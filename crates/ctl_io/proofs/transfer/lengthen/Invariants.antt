use Rattle.std.proofs.Common.{◌≡◌, ◌-◌, ◌≤◌, length, max, take, vec_capacity}
use Rattle.ctl_io.proofs.transfer.lengthen.Given as goal

abbrev pub invariant-loop-whole : goal.invariant-loop-whole
invariant-loop-whole l = record {
  front : take (length l.initial.whole.items) l.whole.items ≡ l.initial.whole.items;
  longer : length l.initial.whole.items ≤ length l.whole.items;
  within : length l.whole.items ≤ max l.len (length l.initial.whole.items);
  room : l.len ≤ vec_capacity l.whole;
}

abbrev pub decreases-loop-whole : goal.decreases-loop-whole
decreases-loop-whole l = l.len - length l.whole.items
