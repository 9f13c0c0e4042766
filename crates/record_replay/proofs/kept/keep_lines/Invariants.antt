use Rattle.std.proofs.Common.{◌≡◌, length}
use Rattle.record_replay.specs.KeptInside.{IsKeeping}
use Rattle.record_replay.proofs.kept.keep_lines.Given as goal

abbrev pub invariant-loop-rest : goal.invariant-loop-rest
invariant-loop-rest g l = record {
  keeping : IsKeeping g.D.Disk.size g.D.Disk.contents g.D.Disk.may_leave g.D.Disk.moment g.D.Disk.left_since g.D.Disk.faults g.D.Disk.name
      l.fn.replayer.plant.now l.fn.script l.fn.replayer.state l.fn.store (g.K.Sink.written l.fn.out) (g.K.Sink.written l.out) l.rest l.replayer l.store;
  count : g.K.Sink.faults l.out ≡ g.K.Sink.faults l.fn.out;
}

abbrev pub decreases-loop-rest : goal.decreases-loop-rest
decreases-loop-rest g l = length l.rest
