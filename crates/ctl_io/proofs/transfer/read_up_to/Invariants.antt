use Rattle.std.proofs.Common.{◌≡◌, ◌-◌, ◌≤◌, length, take}
use Rattle.ctl_io.specs.SourceInside.{Takes}
use Rattle.ctl_io.proofs.transfer.read_up_to.Given as goal

abbrev pub invariant-loop-count : goal.invariant-loop-count
invariant-loop-count g l = record {
  read : l.count ≤ length l.whole.items;
  fits : length l.whole.items ≤ l.limit;
  taken : Takes (take l.count l.whole.items) (g.S.Source.left l.initial.source) (g.S.Source.left l.source);
  name : g.S.Source.name l.source ≡ g.S.Source.name l.initial.source;
  count : g.S.Source.faults l.source ≡ g.S.Source.faults l.initial.source;
}

abbrev pub decreases-loop-count : goal.decreases-loop-count
decreases-loop-count g l = l.limit - l.count
