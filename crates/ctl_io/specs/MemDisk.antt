-- What a disk in memory holds, from the record of its calls.
use Rattle.std.specs.Prelude.{ℕ, ◌+◌, nat_lt, nat_le, Bool, true, false, not, ◌&&◌, List, [], ◌∷◌, length, take, replicate, if◌then◌else◌}
use Rattle.ctl_io.specs.Calls.{Calls, next_fails, called, uncalled}
use Rattle.ctl_io.specs.Disk.{overlaid}
use Rattle.ctl_io.specs.DiskPast.{DiskWrite, DiskEvent, WasRead, WasWritten, WasSynced, DiskPast, Stored, written_to, stored_after}
use Rattle.ctl_io.specs.declared.disk.Did.{Did}
use Rattle.ctl_io.specs.declared.disk.Did.TheVariants.{Done, Failed}

-- A disk in memory: the bytes that it began with, its recorded calls, the newest first, how many bytes these wrote, for how many
-- calls and written bytes it has taken the memory in all, and the count of its calls.
pub record DiskState : Type 0 where
  pub start : List ℕ
  pub events : List DiskEvent
  pub written : ℕ
  pub calls_room : ℕ
  pub bytes_room : ℕ
  pub calls : Calls

-- its past
abbrev pub past_of : DiskState → DiskPast
past_of disk = record { start = disk.start; events = disk.events }

-- what the disk holds now
abbrev pub stored_by : DiskState → Stored
stored_by disk = stored_after disk.start disk.events

-- a disk of these bytes of which no call was made
abbrev pub unused : List ℕ → ℕ → ℕ → List ℕ → DiskState
unused bytes calls room failing = record {
  start = bytes;
  events = [];
  written = 0;
  calls_room = calls;
  bytes_room = room;
  calls = uncalled failing;
}

-- whether there is room to record a call that writes so many bytes
abbrev pub has_room : ℕ → DiskState → Bool
has_room n disk =
    nat_lt (length disk.events) disk.calls_room && nat_le (disk.written + n) disk.bytes_room

-- whether a call fails that is listed or isn't, where there is room to record it or isn't
abbrev pub fails_when : (listed room : Bool) → Bool
fails_when listed true = listed
fails_when listed false = true

-- the disk after such a call, which is recorded as this and writes so many bytes if there is room
abbrev pub recorded_when : (listed room : Bool) → DiskEvent → ℕ → DiskState → DiskState
recorded_when listed room event n disk = record disk {
  events = if room then event ∷ disk.events else disk.events;
  written = if room then disk.written + n else disk.written;
  calls = called (fails_when listed room) disk.calls;
}

-- what a call answers that writes so many bytes
abbrev pub disk_answer : ℕ → DiskState → Did
disk_answer n disk =
    if fails_when (next_fails disk.calls) (has_room n disk) then Failed else Done

-- the disk after a read, a write and a sync
abbrev pub after_disk_read : DiskState → DiskState
after_disk_read disk = recorded_when (next_fails disk.calls) (has_room 0 disk) WasRead 0 disk

abbrev pub after_disk_write : DiskWrite → DiskState → DiskState
after_disk_write write disk =
    let listed = next_fails disk.calls in
    let n = length write.bytes in
    recorded_when listed (has_room n disk) (WasWritten (not listed) write) n disk

abbrev pub after_disk_sync : DiskState → DiskState
after_disk_sync disk =
    let listed = next_fails disk.calls in
    recorded_when listed (has_room 0 disk) (WasSynced (not listed)) 0 disk

-- these writes made one after another, but the last of them leaves bytes A5 in its range
abbrev pub torn_last : List DiskWrite → List ℕ → List ℕ
torn_last [] all = all
torn_last (write ∷ []) all = overlaid write.at (replicate (length write.bytes) 165) all
torn_last (write ∷ next ∷ writes) all = torn_last (next ∷ writes) (written_to write all)

-- what a crash leaves if the first so many writes since the last sync stand and the last of these is torn
abbrev pub crashed_at : ℕ → Stored → List ℕ
crashed_at kept stored = torn_last (take kept stored.pending) stored.synced

-- a copy of the disk after such a crash: no call was made of it, none will fail, and it has the same room
abbrev pub crash_copy : ℕ → DiskState → DiskState
crash_copy kept disk =
    unused (crashed_at kept (stored_by disk)) disk.calls_room disk.bytes_room []
