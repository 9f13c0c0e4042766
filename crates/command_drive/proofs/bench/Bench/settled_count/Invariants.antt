use Rattle.std.proofs.Common.{◌≡◌, ◌≤◌, count_by, is_some}
use Rattle.std.specs.List.{range_with_len}
use Rattle.std.specs.FinMap.{get}
use Rattle.command_drive.proofs.bench.Bench.settled_count.Given as goal

abbrev pub invariant-loop-dest : goal.invariant-loop-dest
invariant-loop-dest l = record {
  counted : l.count ≡ count_by (λ dest. is_some (get l.self.driver.progress.settled dest)) (range_with_len 0 l.dest);
  few : l.count ≤ l.dest;
}
