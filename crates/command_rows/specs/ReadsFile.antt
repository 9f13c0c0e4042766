-- What becomes of the files where one of them is read whole.
use Rattle.std.specs.Prelude.{◌≡◌, ℕ, List, Result, Ok, Err}
use Rattle.ctl_io.specs.Faults.{count_after}
use Rattle.ctl_io.specs.Held.{AllStay, OtherOpeningsStay}
use Rattle.ctl_io.specs.WholeFile.{FileReading, Well, Missing, Failed, reading_failed, AfterReading, IsGivenBack}
use Rattle.command_rows.specs.Moment.{Snapshot}
use Rattle.command_rows.specs.End.{Stopped, FileMissing, FileFault}

-- The file of this name was read so, and what the files hold of other names stays, and all disks.
pub record ReadsFile (reading : FileReading) (name : List ℕ) (before now : Snapshot)
    : Type 0 where
  pub openings : AfterReading reading (before.held name) (now.held name)
  pub others : OtherOpeningsStay name before.held now.held
  pub disks : AllStay before.disks now.disks
  pub given_back : IsGivenBack reading name before.custody now.custody
  pub faults : now.faults ≡ count_after (reading_failed reading) before.faults

-- how the last file was read where this stops the run, and where opening leads to this
abbrev pub stop_reading : Stopped → FileReading
stop_reading (FileMissing name) = Missing
stop_reading (FileFault name) = Failed
stop_reading other = Well

abbrev pub reading_for : {A : Type 0} → Result A Stopped → FileReading
reading_for (Ok given) = Well
reading_for (Err stopped) = stop_reading stopped
