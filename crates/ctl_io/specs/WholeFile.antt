-- What becomes of files where one is read whole by its name.
use Rattle.std.specs.Prelude.{◌≡◌, ◌⊎◌, ℕ, Bool, true, false, List, Result, Ok, Err}
use Rattle.ctl_io.specs.Faults.{is_faulty}
use Rattle.ctl_io.specs.Held.{Held, Stays, CountsOn, IsNamed}
use Rattle.ctl_io.specs.Custody.{Custody, FilesCustody, SourceEnd, lent, returned}
use Rattle.ctl_io.specs.declared.transfer.WholeFault.{WholeFault}
use Rattle.ctl_io.specs.declared.transfer.WholeFault.TheVariants as whole
use Rattle.ctl_io.specs.declared.whole_file.FileFault.{FileFault}
use Rattle.ctl_io.specs.declared.whole_file.FileFault.TheVariants as file

-- whether reading a source whole met a fault of the source
abbrev pub whole_failed : {A : Type 0} → Result A WholeFault → Bool
whole_failed (Ok bytes) = false
whole_failed (Err whole.NoMemory) = false
whole_failed (Err whole.TooLong) = false
whole_failed (Err whole.Failed) = true

-- What became of a file that was to be read whole: it was opened and met no fault, it is missing, or a call failed.
pub data FileReading : Type 0 where
  Well : FileReading
  Missing : FileReading
  Failed : FileReading

-- what the answer says of this
abbrev pub reading_of : {A : Type 0} → Result A FileFault → FileReading
reading_of (Err file.Missing) = Missing
reading_of (Err file.Failed) = Failed
reading_of other = Well

-- whether the files or the source met a fault
abbrev pub reading_failed : FileReading → Bool
reading_failed Failed = true
reading_failed other = false

-- that reading a file answered that it is missing, that it is too long, or that memory ran out
abbrev pub SaysMissing : {A : Type 0} → Result A FileFault → Type 0
SaysMissing answer = answer ≡ Err file.Missing

abbrev pub SaysTooLong : {A : Type 0} → Result A FileFault → Type 0
SaysTooLong answer = answer ≡ Err file.TooLong

abbrev pub SaysNoMemory : {A : Type 0} → Result A FileFault → Type 0
SaysNoMemory answer = answer ≡ Err file.NoMemory

-- what becomes of the openings of the file's name: one is gone, but where the file is missing, or where the files failed
abbrev pub AfterReading : FileReading → (ℕ → Held) → (ℕ → Held) → Type 0
AfterReading Well before now = CountsOn before now
AfterReading Missing before now = Stays before now
AfterReading Failed before now = CountsOn before now ⊎ Stays before now

-- One source of this name was handed out and given back, with a fault or without.
pub record CameBack (name : List ℕ) (faulty : Bool) (before now : Custody SourceEnd)
    : Type 0 where
  pub shown : SourceEnd
  pub named : IsNamed name shown.name
  pub met : is_faulty shown.faults ≡ faulty
  pub custody : now ≡ returned shown (lent before)

-- what becomes of the sources: the file's was given back without a fault; none was handed out where the file is missing; and
-- where a call failed either none was, or the file's was given back with a fault
abbrev pub GivenBack : FileReading → List ℕ → Custody SourceEnd → Custody SourceEnd → Type 0
GivenBack Well name before now = CameBack name false before now
GivenBack Missing name before now = now ≡ before
GivenBack Failed name before now = (now ≡ before) ⊎ CameBack name true before now

-- The file's source, where one was handed out, was given back so, and no sink and no disk was handed out or given back.
pub record IsGivenBack (reading : FileReading) (name : List ℕ) (before now : FilesCustody)
    : Type 0 where
  pub sources : GivenBack reading name before.sources now.sources
  pub sinks : now.sinks ≡ before.sinks
  pub disks : now.disks ≡ before.disks
