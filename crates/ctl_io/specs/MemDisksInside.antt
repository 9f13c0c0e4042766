-- The fields of the disks of files in memory.
use Rattle.std.specs.Prelude.{◌≡◌, ◌≤◌, [], length, replicate, vec_capacity}
use Rattle.std.specs.List.{AllByRecursion}
use Rattle.ctl_io.specs.MemDisk.{unused}
use Rattle.ctl_io.specs.MemDisks.{MadeSize, DisksState, longest_name, AreNewDisks}
use Rattle.ctl_io.specs.declared.memory.mem_disks.BlankDisk.{BlankDisk}
use Rattle.ctl_io.specs.declared.memory.mem_disks.MemDisks.TheInside.{Inside}

-- What is taken for a disk that may be made: the room of its name, and a disk of the greatest size that wasn't used.
pub record IsBlank (made : MadeSize) (blank : BlankDisk) : Type 0 where
  pub unnamed : blank.name.items ≡ []
  pub room : longest_name ≤ vec_capacity blank.name
  pub disk : blank.disk ≡ unused (replicate made.bytes 0) made.calls_room made.bytes_room []

abbrev pub made_size : Inside → MadeSize
made_size disks = record {
  bytes = disks.bytes;
  calls_room = disks.calls_room;
  bytes_room = disks.bytes_room;
}

-- the disks, without where they lie in memory
abbrev pub disks_state : Inside → DisksState
disks_state disks = record {
  waiting = disks.waiting.items;
  names = disks.names.items;
  unmade = length disks.blanks.items;
  made = made_size disks;
  out = disks.out;
  back = disks.back.items;
  back_room = vec_capacity disks.back;
}

-- What waits is new, and what may be made is blank.
pub record AreLaid (disks : Inside) : Type 0 where
  pub new : AreNewDisks disks.waiting.items
  pub blank : AllByRecursion (IsBlank (made_size disks)) disks.blanks.items
