use Rattle.std.proofs.Common.{◌≡◌, length, map}
use Rattle.std.specs.List.{AllByRecursion}
use Rattle.ctl_io.specs.MemDisk.{torn_last}
use Rattle.ctl_io.specs.MemDiskInside.{write_of, IsSpan}
use Rattle.ctl_io.proofs.memory.mem_disk.replay.Given as goal

abbrev pub invariant-loop-rest : goal.invariant-loop-rest
invariant-loop-rest l = record {
  each : AllByRecursion (IsSpan (length l.written) (length l.out)) l.rest;
  same : torn_last (map (write_of l.written) l.rest) l.out ≡ torn_last (map (write_of l.written) l.spans) l.initial.out;
}

abbrev pub decreases-loop-rest : goal.decreases-loop-rest
decreases-loop-rest l = length l.rest
