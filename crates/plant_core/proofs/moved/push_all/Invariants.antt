use Rattle.std.proofs.Common.{◌≡◌, ◌+◌, ◌≤◌, ◌++◌, length, drop, vec_capacity}
use Rattle.plant_core.specs.StateInside.{busy_of}
use Rattle.plant_core.proofs.moved.push_all.Given as goal

-- what stands in the list with what is left to be looked at leads to what is wanted
abbrev pub invariant-loop-change : goal.invariant-loop-change
invariant-loop-change l = record {
  few : length l.list.items ≤ length l.fn.list.items + l.change-index;
  busy : l.list.items ++ busy_of l.points.entries (drop l.change-index l.changes) ≡ l.fn.list.items ++ busy_of l.points.entries l.changes;
  capacity : vec_capacity l.list ≡ vec_capacity l.fn.list;
}
