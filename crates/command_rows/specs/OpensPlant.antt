-- What a plant's word leads to: a plant, or what stops the run.
use Rattle.std.specs.Prelude.{◌≡◌, ℕ, ◌≤◌, Bool, bytes_eq, MatchBool, List, length, codes, Result, Ok, Err}
use Rattle.ctl_io.specs.Held.{Held, IfHeld, IsLonger, MayBeHere, MayBeMissing}
use Rattle.plant_file.specs.declared.fault.PlantFault.{PlantFault}
use Rattle.plant_file.specs.FaultText.{fault_text}
use Rattle.plant_config.specs.Plant.{PlantData}
use Rattle.plant_config.specs.Bench.{bench}
use Rattle.plant_config.specs.PlantOfText.{plant_of_text}
use Rattle.command_rows.specs.Moment.{Snapshot}
use Rattle.command_rows.specs.End.{Stopped, NoMemory, FileMissing, FileFault, PlantRefused, PlantTooLong, TooLong}
use Rattle.command_rows.specs.ReadsFile.{ReadsFile, reading_for}

-- the most bytes of a plant file, 4 MiB
abbrev pub longest_plant : ℕ
longest_plant = 4194304

-- There is a plant file, it isn't too long, and by its text there is this plant, or this fault.
abbrev pub Reads : Held → Result PlantData PlantFault → Type 0
Reads held read = IfHeld held (λ text. (length text ≤ longest_plant) × (plant_of_text text ≡ read))

-- There is a plant file with a fault, of which this is the text.
pub record HasFault (held : Held) (why : List ℕ) : Type 0 where
  pub fault : PlantFault
  pub text : why ≡ fault_text fault
  pub reads : Reads held (Err fault)

-- The plant file of this name, of which the files hold this, leads to a plant or stops the run.
abbrev pub FindsPlant : List ℕ → Held → Result PlantData Stopped → Type 0
FindsPlant name held (Ok plant) = Reads held (Ok plant)
FindsPlant name held (Err NoMemory) = MayBeHere held
FindsPlant name held (Err (FileMissing missing)) = (missing ≡ name) × MayBeMissing held
FindsPlant name held (Err (FileFault failed)) = failed ≡ name
FindsPlant name held (Err (PlantRefused why)) = HasFault held why
FindsPlant name held (Err PlantTooLong) = IsLonger longest_plant held
FindsPlant name held (Err (TooLong word)) = ⊥

-- The plant file of this name is read, and leads to this.
pub record OpensFile (name : List ℕ) (before now : Snapshot) (opened : Result PlantData Stopped)
    : Type 0 where
  pub finds : FindsPlant name (before.held name 0) opened
  pub reads : ReadsFile (reading_for opened) name before now

-- The bench plant is there, or there is no memory for it.
abbrev pub IsBench : Result PlantData Stopped → Type 0
IsBench (Ok plant) = plant ≡ bench
IsBench (Err NoMemory) = Unit {0}
IsBench (Err other) = ⊥

-- whether a plant's word is that of the bench plant
abbrev pub is_bench : List ℕ → Bool
is_bench word = bytes_eq word (codes "bench")

-- A plant's word leads to this. For the bench plant no file is opened.
abbrev pub OpensPlant : List ℕ → Snapshot → Snapshot → Result PlantData Stopped → Type 0
OpensPlant word before now opened =
    MatchBool (is_bench word) (IsBench opened × (now ≡ before)) (OpensFile word before now opened)
