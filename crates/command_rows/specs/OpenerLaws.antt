-- What opening leaves of the files, over all parts and whatever it leads to.
use Rattle.std.specs.Prelude.{◌≡◌, ◌⊎◌, ℕ, List, [], ◌∷◌, ◌++◌, if◌then◌else◌, Result, Err}
use Rattle.ctl_io.specs.Faults.{count_after}
use Rattle.ctl_io.specs.Held.{Held, IsLonger, MayBeHere, MayBeMissing}
use Rattle.ctl_io.specs.WholeFile.{FileReading, Well, reading_failed}
use Rattle.command_words.specs.Parts.{Part, Plant, Whole, Made, Store, Later, Number, Last, NoMore, Wholes, Prefix, Said, SaidLast, AllSaid}
use Rattle.command_rows.specs.Moment.{Snapshot}
use Rattle.command_rows.specs.End.{Stopped, NoMemory, FileMissing, FileFault, PlantRefused, PlantTooLong, TooLong}
use Rattle.command_rows.specs.ReadsFile.{ReadsFile, stop_reading, reading_for}
use Rattle.command_rows.specs.OpensPlant.{longest_plant, HasFault, is_bench}
use Rattle.command_rows.specs.Opener.{AllGiven, AllLead}

-- the names of the files that opening reads for a part, behind the parts, and for all of a form, in order: none for the bench
-- plant
abbrev pub part_files : (part : Part) → Said part → List (List ℕ)
part_files Plant word = if is_bench word then [] else word ∷ []
part_files (Whole kind) name = name ∷ []
part_files Made name = []
part_files Store name = []
part_files (Later kind) name = []
part_files (Number low most) number = []

abbrev pub last_files : (last : Last) → SaidLast last → List (List ℕ)
last_files NoMore said = []
last_files (Wholes kind) names = names
last_files Prefix said = []

abbrev pub form_files : (parts : List Part) (last : Last) → AllSaid parts last → List (List ℕ)
form_files [] last said = last_files last said
form_files (part ∷ parts) last said = part_files part said.0 ++ form_files parts last said.1

-- The files of these names were read whole, one after the other, and all was well but with the last, which was read so.
abbrev pub ReadsFiles : FileReading → List (List ℕ) → Snapshot → Snapshot → Type 0
ReadsFiles reading [] before now = (reading ≡ Well) × (now ≡ before)
ReadsFiles reading (name ∷ later) before now =
    ((later ≡ []) × ReadsFile reading name before now)
    ⊎ ((between : Snapshot) × ReadsFile Well name before between
    × ReadsFiles reading later between now)

-- Of files of these names a front was read, in order, of which the last was read so.
pub record ReadsFront (reading : FileReading) (names : List (List ℕ)) (before now : Snapshot)
    : Type 0 where
  pub opened : List (List ℕ)
  pub unopened : List (List ℕ)
  pub front : names ≡ opened ++ unopened
  pub reads : ReadsFiles reading opened before now

-- Opening reads a front of the form's files, in order. All was well, but a file that it tells of as missing or failed is the last,
-- and was so; and where it gives all that is said, all were read.
abbrev pub OpeningReadsFront : Type 0
OpeningReadsFront = (parts : List Part) (last : Last) (said : AllSaid parts last)
    (before now : Snapshot) (opened : Result (AllGiven parts last) Stopped)
    → AllLead parts last said before now opened
    → ReadsFront (reading_for opened) (form_files parts last said) before now

-- The files' count of faults rose by one exactly where a fault of theirs stops the run.
abbrev pub OpeningCounts : Type 0
OpeningCounts = (parts : List Part) (last : Last) (said : AllSaid parts last)
    (before now : Snapshot) (opened : Result (AllGiven parts last) Stopped)
    → AllLead parts last said before now opened
    → now.faults ≡ count_after (reading_failed (reading_for opened)) before.faults

-- No sink was handed out or given back.
abbrev pub OpeningMakesNone : Type 0
OpeningMakesNone = (parts : List Part) (last : Last) (said : AllSaid parts last)
    (before now : Snapshot) (opened : Result (AllGiven parts last) Stopped)
    → AllLead parts last said before now opened → now.custody.sinks ≡ before.custody.sinks

-- No disk was handed out or given back.
abbrev pub OpeningLendsNone : Type 0
OpeningLendsNone = (parts : List Part) (last : Last) (said : AllSaid parts last)
    (before now : Snapshot) (opened : Result (AllGiven parts last) Stopped)
    → AllLead parts last said before now opened → now.custody.disks ≡ before.custody.disks

-- What stops the run at the file of this name has its cause in what the files hold of it when its turn comes. Of a file that is too
-- long this says only that it may be here: by how much, the opening itself says.
abbrev pub CausedBy : Stopped → List ℕ → Held → Type 0
CausedBy NoMemory name held = MayBeHere held
CausedBy (FileMissing missing) name held = (missing ≡ name) × MayBeMissing held
CausedBy (FileFault failed) name held = failed ≡ name
CausedBy (PlantRefused why) name held = HasFault held why
CausedBy PlantTooLong name held = IsLonger longest_plant held
CausedBy (TooLong word) name held = MayBeHere held

-- Of files of these names one has the cause of this stop. It is the last that was read, and with those before it all was well.
pub record StopsThere (stopped : Stopped) (names : List (List ℕ)) (before now : Snapshot)
    : Type 0 where
  pub opened : List (List ℕ)
  pub name : List ℕ
  pub later : List (List ℕ)
  pub place : names ≡ opened ++ name ∷ later
  pub between : Snapshot
  pub well : ReadsFiles Well opened before between
  pub cause : CausedBy stopped name (between.held name 0)
  pub reads : ReadsFile (stop_reading stopped) name between now

-- A stop has its cause at one of these files, or memory ran out for the bench plant.
abbrev pub HasCause : Stopped → List (List ℕ) → Snapshot → Snapshot → Type 0
HasCause stopped names before now = StopsThere stopped names before now
    ⊎ ((stopped ≡ NoMemory) × ReadsFront Well names before now)

-- Whatever stops a run at its inputs has its cause there.
abbrev pub OpeningHasCause : Type 0
OpeningHasCause = (parts : List Part) (last : Last) (said : AllSaid parts last)
    (before now : Snapshot) (stopped : Stopped) → AllLead parts last said before now (Err stopped)
    → HasCause stopped (form_files parts last said) before now
