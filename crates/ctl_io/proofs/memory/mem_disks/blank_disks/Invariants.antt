use Rattle.std.proofs.Common.{◌≡◌, length, vec_capacity}
use Rattle.std.specs.List.{AllByRecursion}
use Rattle.ctl_io.specs.MemDisksInside.{IsBlank}
use Rattle.ctl_io.proofs.memory.mem_disks.blank_disks.Given as goal

abbrev pub invariant-loop : goal.invariant-loop
invariant-loop l = record {
  made : length l.blanks.items ≡ l.counter;
  room : vec_capacity l.blanks ≡ l.count;
  blank : AllByRecursion (IsBlank (record { bytes = l.bytes; calls_room = l.calls_room; bytes_room = l.bytes_room })) l.blanks.items;
}
