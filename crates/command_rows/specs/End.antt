-- How a run may end, with its exit status and its text.
use Rattle.std.specs.Prelude.{◌≡◌, ◌⊎◌, ℕ, Bool, true, false, List, ◌++◌}
use Rattle.ctl_io.specs.Faults.{one_more}
use Rattle.ctl_io.specs.Sink.{appended, AppendsPart}
use Rattle.command_rows.specs.Lines.{no_memory, file_missing, file_fault, plant_refused, plant_too_long, too_long}
use Rattle.command_rows.specs.Moment.{Output}

-- An end: the exit status, all that is appended to the output, and whether the files had a fault.
pub record End : Type 0 where
  pub status : ℕ
  pub text : List ℕ
  pub is_file_fault : Bool

-- the end of this status and text that is no fault of the files
abbrev pub ended : ℕ → List ℕ → End
ended status text = record { status = status; text = text; is_file_fault = false }

-- all was done, and this was its output
abbrev pub done : List ℕ → End
done output = ended 0 output

-- memory ran out, and nothing else was written
abbrev pub out_of_memory : End
out_of_memory = ended 1 no_memory

-- the files failed at the file of this name
abbrev pub file_failed : List ℕ → End
file_failed name = record { status = 3; text = file_fault name; is_file_fault = true }

-- this end behind a text that was written before
abbrev pub behind : List ℕ → End → End
behind front end = record end { text = front ++ end.text }

-- What stops a run at its inputs, for all commands alike: a plant's file that is refused has a reason, and a file that is too
-- long the word of its kind.
pub data Stopped : Type 0 where
  NoMemory : Stopped
  FileMissing : (name : List ℕ) → Stopped
  FileFault : (name : List ℕ) → Stopped
  PlantRefused : (why : List ℕ) → Stopped
  PlantTooLong : Stopped
  TooLong : (word : List ℕ) → Stopped

-- the end of a run that is stopped so
abbrev pub stopped_end : Stopped → End
stopped_end NoMemory = out_of_memory
stopped_end (FileMissing name) = ended 3 (file_missing name)
stopped_end (FileFault name) = file_failed name
stopped_end (PlantRefused why) = ended 4 (plant_refused why)
stopped_end PlantTooLong = ended 4 plant_too_long
stopped_end (TooLong word) = ended 5 (too_long word)

-- the status of every end whose text could not be written
abbrev pub unwritten_status : ℕ
unwritten_status = 7

-- All the text of the end was appended, and the status is the end's.
pub record IsWritten (end : End) (status : ℕ) (before now : Output) : Type 0 where
  pub status_is : status ≡ end.status
  pub appends : now.written ≡ appended before.written end.text
  pub faults : now.faults ≡ before.faults

-- A write failed behind a shorter front of the end's text, and the status says so.
pub record IsCutShort (end : End) (status : ℕ) (before now : Output) : Type 0 where
  pub status_is : status ≡ unwritten_status
  pub appends : AppendsPart end.text before.written now.written
  pub faults : now.faults ≡ one_more before.faults

-- A run comes to this end, with this status.
abbrev pub ComesTo : End → ℕ → Output → Output → Type 0
ComesTo end status before now = IsWritten end status before now ⊎ IsCutShort end status before now
