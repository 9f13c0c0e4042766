-- The disks of files in memory.
use Rattle.std.specs.Prelude.{◌≡◌, ℕ, ◌+◌, ◌-◌, nat_lt, Bool, List, [], ◌∷◌, ◌++◌, length, map, filter, replicate, Option, Some, None, if◌then◌else◌}
use Rattle.std.specs.List.{slice_get, AllByRecursion}
use Rattle.std.specs.Str.{bytes_eq}
use Rattle.ctl_io.specs.Custody.{DiskEnd}
use Rattle.ctl_io.specs.DiskPast.{DiskPast}
use Rattle.ctl_io.specs.Held.{HeldOf, Unshown, NoFile, Holds}
use Rattle.ctl_io.specs.MemDisk.{DiskState, past_of, unused}
use Rattle.ctl_io.specs.Named.{is_listed, without_first}
use Rattle.ctl_io.specs.declared.memory.named_objects.NamedDisk.{NamedDisk}

-- How large a disk can be that is made, and for how many calls and written bytes it has room.
pub record MadeSize : Type 0 where
  pub bytes : ℕ
  pub calls_room : ℕ
  pub bytes_room : ℕ

-- The disks that weren't handed out yet, the names of all of these, how many may still be made, and of what size, how many are
-- out, those that were given back, and for how many of these there is room in all.
pub record DisksState : Type 0 where
  pub waiting : List NamedDisk
  pub names : List (List ℕ)
  pub unmade : ℕ
  pub made : MadeSize
  pub out : ℕ
  pub back : List NamedDisk
  pub back_room : ℕ

-- disks of which none was handed out yet, and as many more may be made as there is room for
abbrev pub all_waiting : List NamedDisk → ℕ → MadeSize → DisksState
all_waiting disks room made = record {
  waiting = disks;
  names = map (λ entry. entry.name) disks;
  unmade = room;
  made = made;
  out = 0;
  back = [];
  back_room = room;
}

-- whether a disk has this name
abbrev pub disk_has : List ℕ → NamedDisk → Bool
disk_has name entry = bytes_eq entry.name name

-- how many bytes the name of a disk that is made may have
abbrev pub longest_name : ℕ
longest_name = 4096

-- A disk that is made: so many zero bytes.
abbrev pub zero_disk : List ℕ → ℕ → MadeSize → NamedDisk
zero_disk name size made = record {
  name = name;
  disk = unused (replicate size 0) made.calls_room made.bytes_room [];
}

-- the disk that is made under a name, if that isn't too long
abbrev pub disk_made : List ℕ → ℕ → MadeSize → Option NamedDisk
disk_made name size made =
    if nat_lt longest_name (length name) then None else Some (zero_disk name size made)

-- the disks without the first of this name, which is out, or as they are if none waits
abbrev pub after_lending : Option NamedDisk → List ℕ → DisksState → DisksState
after_lending None name disks = disks
after_lending (Some entry) name disks = record disks {
  waiting = without_first (disk_has name) disks.waiting;
  out = disks.out + 1;
}

-- the disks where one was made, which is out
abbrev pub after_making : Option NamedDisk → DisksState → DisksState
after_making None disks = disks
after_making (Some entry) disks =
    record disks { unmade = disks.unmade - 1; out = disks.out + 1 }

-- the disks after one was given back
abbrev pub after_return : NamedDisk → DisksState → DisksState
after_return entry disks =
    record disks { out = disks.out - 1; back = disks.back ++ entry ∷ [] }

-- what they hold for an opening, and nothing is shown where no disk waits for it
abbrev pub disk_held_by : Option NamedDisk → HeldOf DiskPast
disk_held_by (Some entry) = Holds (past_of entry.disk)
disk_held_by None = Unshown

-- What they hold of a name for its k-th opening from now: of the disks of that name that wait the k-th. There is none where
-- no disk that waited ever had the name.
abbrev pub disk_held_of : DisksState → List ℕ → ℕ → HeldOf DiskPast
disk_held_of disks name k =
    if is_listed name disks.names
    then disk_held_by (slice_get (filter (disk_has name) disks.waiting) k) else NoFile

-- what a disk that was given back showed
abbrev pub disk_end : NamedDisk → DiskEnd
disk_end entry = record {
  name = Some entry.name;
  past = Some (past_of entry.disk);
  faults = entry.disk.calls.faults;
}

-- No call of the disk has failed.
abbrev pub IsNewDisk : DiskState → Type 0
IsNewDisk disk = disk.calls.faults ≡ 0

-- No call of the disks has failed.
abbrev pub AreNewDisks : List NamedDisk → Type 0
AreNewDisks entries = AllByRecursion (λ entry. IsNewDisk entry.disk) entries
