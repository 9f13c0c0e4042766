-- The fields of a disk in memory.
use Rattle.std.specs.Prelude.{◌≡◌, ℕ, ◌+◌, ◌≤◌, List, [], ◌∷◌, length, take, drop, map, vec_capacity}
use Rattle.std.specs.List.{AllByRecursion}
use Rattle.ctl_io.specs.DiskPast.{DiskWrite, DiskEvent, WasRead, WasWritten, WasSynced, Stored, stored_after}
use Rattle.ctl_io.specs.MemDisk.{DiskState}
use Rattle.ctl_io.specs.declared.memory.disk_call.WriteSpan.{WriteSpan}
use Rattle.ctl_io.specs.declared.memory.disk_call.DiskCall.{DiskCall}
use Rattle.ctl_io.specs.declared.memory.disk_call.DiskCall.TheVariants as call
use Rattle.ctl_io.specs.declared.memory.mem_disk.MemDisk.TheInside.{Inside}

-- the write that a span stands for, where all written bytes are these
abbrev pub write_of : List ℕ → WriteSpan → DiskWrite
write_of written span = record { at = span.at; bytes = take span.len (drop span.from written) }

abbrev pub event_of : List ℕ → DiskCall → DiskEvent
event_of written (call.Read done) = WasRead
event_of written (call.Write span done) = WasWritten done (write_of written span)
event_of written (call.Sync done) = WasSynced done

-- the recorded calls behind others, the newest first
abbrev pub events_on : List DiskEvent → List ℕ → List DiskCall → List DiskEvent
events_on events written [] = events
events_on events written (call ∷ calls) = events_on (event_of written call ∷ events) written calls

-- what a disk holds by its record
abbrev pub stored_in : Inside → Stored
stored_in disk = stored_after disk.start.items (events_on [] disk.written.items disk.calls.items)

-- The bytes of a span are among so many that were written.
abbrev pub IsBelow : ℕ → WriteSpan → Type 0
IsBelow written span = span.from + span.len ≤ written

-- So are those of a call.
abbrev pub CallIsBelow : ℕ → DiskCall → Type 0
CallIsBelow written (call.Read done) = Unit {0}
CallIsBelow written (call.Write span done) = IsBelow written span
CallIsBelow written (call.Sync done) = Unit {0}

-- The bytes of a span are among those that were written, and its range is within the size.
pub record IsSpan (written size : ℕ) (span : WriteSpan) : Type 0 where
  pub below : IsBelow written span
  pub within : span.at + span.len ≤ size

-- the disk, without where it lies in memory
abbrev pub disk_state : Inside → DiskState
disk_state disk = record {
  start = disk.start.items;
  events = events_on [] disk.written.items disk.calls.items;
  written = length disk.written.items;
  calls_room = vec_capacity disk.calls;
  bytes_room = vec_capacity disk.written;
  calls = disk.count;
}

-- The bytes and the writes that are kept beside the record are those that it gives, where all written bytes are these.
pub record Agrees (stored : Stored) (bytes last all : List ℕ) (spans : List WriteSpan)
    : Type 0 where
  pub present : bytes ≡ stored.present
  pub synced : last ≡ stored.synced
  pub pending : map (write_of all) spans ≡ stored.pending
  pub as_long : length last ≡ length bytes
  pub each : AllByRecursion (IsSpan (length all) (length bytes)) spans

-- What is kept beside the record agrees with it, and there is room for a write of each call.
pub record IsKept (disk : Inside) : Type 0 where
  pub agrees : Agrees (stored_in disk) disk.present.items disk.synced.items
      disk.written.items disk.pending.items
  pub calls : AllByRecursion (CallIsBelow (length disk.written.items)) disk.calls.items
  pub few : length disk.pending.items ≤ length disk.calls.items
  pub room : vec_capacity disk.pending ≡ vec_capacity disk.calls
