-- What stops a run in the code, as the definitions call it.
use Rattle.std.specs.Prelude.{◌≡◌, ◌≢◌, ℕ, string_bytes, List, Result, Ok, Err}
use Rattle.std.specs.Borrow.{Bor}
use Rattle.ctl_io.specs.declared.whole_file.FileFault.{FileFault}
use Rattle.ctl_io.specs.declared.whole_file.FileFault.TheVariants as files
use Rattle.plant_file.specs.declared.fault.PlantFault.{PlantFault}
use Rattle.plant_file.specs.declared.fault.PlantFault.TheVariants as plants
use Rattle.plant_file.specs.FaultText.{fault_text}
use Rattle.command_rows.specs.declared.stop.Stop.{Stop}
use Rattle.command_rows.specs.declared.stop.Stop.TheVariants as stops
use Rattle.command_rows.specs.declared.status.Status.{Status}
use Rattle.command_rows.specs.declared.status.Status.TheVariants as statuses
use Rattle.command_rows.specs.End.{End, Stopped, NoMemory, FileMissing, FileFault as FileFailed, PlantRefused, PlantTooLong, TooLong, stopped_end}

-- the number of a status
abbrev pub number_of : Status → ℕ
number_of statuses.Done = 0
number_of statuses.NoMemory = 1
number_of statuses.Usage = 2
number_of statuses.File = 3
number_of statuses.Plant = 4
number_of statuses.Refused = 5
number_of statuses.Finding = 6
number_of statuses.Output = 7
number_of statuses.Net = 8
number_of statuses.Limits = 9

-- what a stop of the code is
abbrev pub stopped_of : Stop → Stopped
stopped_of stops.NoMemory = NoMemory
stopped_of (stops.FileMissing name) = FileMissing name.now
stopped_of (stops.FileFault name) = FileFailed name.now
stopped_of (stops.PlantRefused why) = PlantRefused (string_bytes why)
stopped_of stops.PlantTooLong = PlantTooLong
stopped_of (stops.TooLong word) = TooLong word.now

-- its end
abbrev pub end_of : Stop → End
end_of stop = stopped_end (stopped_of stop)

-- what opening answers in the code
abbrev pub opened_as : {A B : Type 0} → (A → B) → Result A Stop → Result B Stopped
opened_as shown (Ok inputs) = Ok (shown inputs)
opened_as shown (Err stop) = Err (stopped_of stop)

-- the stop for a fault of a file, which is this one where the file is too long
abbrev pub stop_of_file : FileFault → Bor (List ℕ) → Stop → Stop
stop_of_file files.NoMemory name too_long = stops.NoMemory
stop_of_file files.Missing name too_long = stops.FileMissing name
stop_of_file files.Failed name too_long = stops.FileFault name
stop_of_file files.TooLong name too_long = too_long

-- A stop says this fault of a plant file's text, or that memory ran out.
abbrev pub SaysFault : PlantFault → Stop → Type 0
SaysFault fault stops.NoMemory = Unit {0}
SaysFault fault (stops.PlantRefused why) =
    (string_bytes why ≡ fault_text fault) × (fault ≢ plants.NoMemory)
SaysFault fault other = ⊥
