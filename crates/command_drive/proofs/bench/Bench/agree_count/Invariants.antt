use Rattle.std.proofs.Common.{◌≡◌, ◌≤◌, count_by}
use Rattle.std.specs.List.{range_with_len}
use Rattle.command_drive.specs.DriveInside.{agrees_at}
use Rattle.command_drive.proofs.bench.Bench.agree_count.Given as goal

abbrev pub invariant-loop-dest : goal.invariant-loop-dest
invariant-loop-dest l = record {
  counted : l.count ≡ count_by (agrees_at l.self) (range_with_len 0 l.dest);
  few : l.count ≤ l.dest;
}
