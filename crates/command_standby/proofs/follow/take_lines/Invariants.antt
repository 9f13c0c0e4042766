use Rattle.std.proofs.Common.{◌≡◌, ◌≤◌}
use Rattle.command_standby.specs.FollowInside.{HasCome}
use Rattle.command_standby.proofs.follow.take_lines.Given as goal

abbrev pub invariant-loop-count : goal.invariant-loop-count
invariant-loop-count l = record {
  plant : l.standby.state.plant ≡ l.plant;
  old : l.passed.old_count ≤ l.count;
  beyond : l.passed.beyond_count ≤ l.count;
  come : HasCome l.plant l.text l.rest l.count l.initial.standby l.differing l.standby l.passed;
}
