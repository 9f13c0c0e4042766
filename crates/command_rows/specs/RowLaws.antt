-- What the status of a run tells, whatever its row is. Each is a law over the ends of rows.
use Rattle.std.specs.Prelude.{◌≡◌, ◌≢◌, ◌⊎◌, ℕ, ◌<◌, false, List, [], ◌∷◌, ◌++◌, Contains, Ok, Err}
use Rattle.ctl_io.specs.Faults.{one_more}
use Rattle.ctl_io.specs.Sink.{appended}
use Rattle.ctl_io.specs.Held.{Stays}
use Rattle.command_words.specs.Parts.{Part, Plant, Whole, Made, Store, Later, Number, Last, AllSaid}
use Rattle.command_rows.specs.Moment.{Snapshot, Moment}
use Rattle.command_rows.specs.Lines.{no_memory}
use Rattle.command_rows.specs.End.{End, Stopped, NoMemory, PlantRefused, PlantTooLong, FileMissing, stopped_end, IsWritten}
use Rattle.command_rows.specs.OpensPlant.{OpensFile, is_bench}
use Rattle.command_rows.specs.Opener.{Given, AllGiven, GoesOn, AllLead}
use Rattle.command_rows.specs.OpenerLaws.{form_files, HasCause}
use Rattle.command_rows.specs.Row.{Promise, IsOwn, RowEnds, RowRuns}
use Rattle.command_rows.specs.Shown.{Holding, AllShow, Shows}
use Rattle.command_rows.specs.Sound.{IsOneOf}

-- ---- why a run ended

-- Opening stopped the run, and exactly the line of that was appended.
pub record WasStopped (parts : List Part) (last : Last) (said : AllSaid parts last)
    (before now : Moment) (status : ℕ) : Type 0 where
  pub stopped : Stopped
  pub lead : AllLead parts last said before.files now.files (Err stopped)
  pub written : IsWritten (stopped_end stopped) status before.output now.output

-- All was opened, the row ended as it promises of what is given, and exactly the text of that was appended.
pub record WasWorked (parts : List Part) (last : Last) (Ends : Promise parts last)
    (said : AllSaid parts last) (before now : Moment) (status : ℕ) : Type 0 where
  pub given : AllGiven parts last
  pub opened : Snapshot
  pub lead : AllLead parts last said before.files opened (Ok given)
  pub end : End
  pub ends : Ends given (record before { files = opened }) now end status
  pub own : IsOwn end opened now.files
  pub written : IsWritten end status before.output now.output

-- A write of the output failed, which its count shows.
abbrev pub CouldNotWrite : Moment → Moment → ℕ → Type 0
CouldNotWrite before now status =
    (status ≡ 7) × (now.output.faults ≡ one_more before.output.faults)

-- A run of a row ended at its inputs, as the row promises, or with a write that failed.
abbrev pub RowsHaveCause : (parts : List Part) (last : Last) → Promise parts last → Type 0
RowsHaveCause parts last Ends =
    (said : AllSaid parts last) (before now : Moment) (status : ℕ)
    → RowRuns parts last Ends said before now status
    → WasStopped parts last said before now status
    ⊎ WasWorked parts last Ends said before now status ⊎ CouldNotWrite before now status

-- No run of a row ends with 2.
abbrev pub NoRowTellsUsage : (parts : List Part) (last : Last) → Promise parts last → Type 0
NoRowTellsUsage parts last Ends =
    (said : AllSaid parts last) (before now : Moment) (status : ℕ)
    → RowRuns parts last Ends said before now status → status ≢ 2

-- In a run that ends with another status than 7 no write failed.
abbrev pub RowsWriteAll : (parts : List Part) (last : Last) → Promise parts last → Type 0
RowsWriteAll parts last Ends =
    (said : AllSaid parts last) (before now : Moment) (status : ℕ)
    → RowRuns parts last Ends said before now status → status ≢ 7
    → now.output.faults ≡ before.output.faults

-- ---- plants that are refused

-- A plant's file is refused: it has a fault, or is too long.
abbrev pub RefusesPlant : Stopped → Type 0
RefusesPlant (PlantRefused why) = Unit {0}
RefusesPlant PlantTooLong = Unit {0}
RefusesPlant other = ⊥

-- Opening is stopped so at the plant's file of this name: what stands before it is given, and nothing behind it was opened.
abbrev pub StopsAtPlant : (parts : List Part) (last : Last) → AllSaid parts last
    → (name : List ℕ) → Stopped → Snapshot → Snapshot → Type 0
StopsAtPlant [] last said name stopped before now = ⊥
StopsAtPlant (Plant ∷ parts) last said name stopped before now =
    ((name ≡ said.0) × (is_bench said.0 ≡ false) × OpensFile said.0 before now (Err stopped))
    ⊎ ((one : Given Plant) × GoesOn Plant said.0 one before
    (λ between. StopsAtPlant parts last said.1 name stopped between now))
StopsAtPlant (part ∷ parts) last said name stopped before now =
    (one : Given part) × GoesOn part said.0 one before
    (λ between. StopsAtPlant parts last said.1 name stopped between now)

-- A plant's file was refused, and exactly the line that says why was appended.
pub record RefusedPlant (parts : List Part) (last : Last) (said : AllSaid parts last)
    (before now : Moment) : Type 0 where
  pub name : List ℕ
  pub stopped : Stopped
  pub refuses : RefusesPlant stopped
  pub at : StopsAtPlant parts last said name stopped before.files now.files
  pub appends :
      now.output.written ≡ appended before.output.written (stopped_end stopped).text

-- Where a run ends with 4, a plant's file was refused.
abbrev pub FourHasCause : (parts : List Part) (last : Last) → Promise parts last → Type 0
FourHasCause parts last Ends =
    (said : AllSaid parts last) (before now : Moment)
    → RowRuns parts last Ends said before now 4 → RefusedPlant parts last said before now

-- ---- what always comes

-- A run was kept from its end: memory ran out, the files had a fault, or a write failed, which their counts show.
abbrev pub WasKept : Moment → Moment → ℕ → Type 0
WasKept before now status =
    (status ≡ 1)
    ⊎ ((status ≡ 3) × (now.files.faults ≡ one_more before.files.faults))
    ⊎ CouldNotWrite before now status

-- Where the files show that opening is stopped, the run ends with the line of that, unless it is kept from its end.
abbrev pub StopsAreTold : (parts : List Part) (last : Last) → Promise parts last → Type 0
StopsAreTold parts last Ends =
    (said : AllSaid parts last) (stopped : Stopped) (before now : Moment) (status : ℕ)
    → AllShow parts last said before.files.held (Err stopped)
    → RowRuns parts last Ends said before now status
    → IsWritten (stopped_end stopped) status before.output now.output ⊎ WasKept before now status

-- This was given, and the row ended as it promises of that.
pub record WorksOn (parts : List Part) (last : Last) (Ends : Promise parts last)
    (said : AllSaid parts last) (given : AllGiven parts last) (before now : Moment) (status : ℕ)
    : Type 0 where
  pub opened : Snapshot
  pub lead : AllLead parts last said before.files opened (Ok given)
  pub ends : RowEnds (Ends given) (record before { files = opened }) now status

-- Where the files show what is given, the row is worked with that, unless the run is kept from its end.
abbrev pub GivenIsWorked : (parts : List Part) (last : Last) → Promise parts last → Type 0
GivenIsWorked parts last Ends =
    (said : AllSaid parts last) (given : AllGiven parts last) (before now : Moment) (status : ℕ)
    → AllShow parts last said before.files.held (Ok given)
    → RowRuns parts last Ends said before now status
    → WorksOn parts last Ends said given before now status ⊎ WasKept before now status

-- The first file that words name is shown to be missing, and has this name.
abbrev pub MissesFirst : (parts : List Part) (last : Last) → AllSaid parts last → Holding
    → List ℕ → Type 0
MissesFirst [] last said held name = ⊥
MissesFirst (part ∷ parts) last said held name = Shows part said.0 held (Err (FileMissing name))

-- Where that is shown, the run ends with 3, or a write failed: memory is no cause then.
abbrev pub MissingFirstEndsWithThree : (parts : List Part) (last : Last) → Promise parts last
    → Type 0
MissingFirstEndsWithThree parts last Ends =
    (said : AllSaid parts last) (name : List ℕ) (before now : Moment) (status : ℕ)
    → MissesFirst parts last said before.files.held name
    → RowRuns parts last Ends said before now status
    → (status ≡ 3) ⊎ CouldNotWrite before now status

-- ---- rows whose promises are sound

-- Memory ran out at a file that may be here, behind others that were read well, or behind all of them; and the line that says so was
-- appended, behind what the row had written until then.
pub record RanOut (parts : List Part) (last : Last) (said : AllSaid parts last)
    (before now : Moment) : Type 0 where
  pub there : HasCause NoMemory (form_files parts last said) before.files now.files
      ⊎ ((given : AllGiven parts last) × (opened : Snapshot)
      × AllLead parts last said before.files opened (Ok given))
  pub front : List ℕ
  pub appends : now.output.written ≡ appended before.output.written (front ++ no_memory)

-- A run that ends with 1 ran out of memory.
abbrev pub OneHasCause : (parts : List Part) (last : Last) → Promise parts last → Type 0
OneHasCause parts last Ends = (said : AllSaid parts last) (before now : Moment)
    → RowRuns parts last Ends said before now 1 → RanOut parts last said before now

-- A run that ends with 1 appended nothing but the line that says so.
abbrev pub OneIsSilent : (parts : List Part) (last : Last) → Promise parts last → Type 0
OneIsSilent parts last Ends = (said : AllSaid parts last) (before now : Moment)
    → RowRuns parts last Ends said before now 1
    → now.output.written ≡ appended before.output.written no_memory

-- A run ends with one of these statuses of its row's own, with one of those of stops, or with 7: one of eight.
pub record IsKnown (statuses : List ℕ) (status : ℕ) : Type 0 where
  pub one : IsOneOf (1 ∷ 3 ∷ 4 ∷ 5 ∷ 7 ∷ statuses) status
  pub eight : status < 8

abbrev pub RowStatusesAreKnown : (parts : List Part) (last : Last) → Promise parts last
    → (statuses : List ℕ) → Type 0
RowStatusesAreKnown parts last Ends statuses =
    (said : AllSaid parts last) (before now : Moment) (status : ℕ)
    → RowRuns parts last Ends said before now status → IsKnown statuses status

-- A run that ends with 0 or with 6 has worked its row, of which that is one of these statuses of its own.
abbrev pub WorkedHasCause : (parts : List Part) (last : Last) → Promise parts last
    → (statuses : List ℕ) → Type 0
WorkedHasCause parts last Ends statuses =
    (said : AllSaid parts last) (before now : Moment) (status : ℕ)
    → (status ≡ 0) ⊎ (status ≡ 6) → RowRuns parts last Ends said before now status
    → IsOneOf statuses status × WasWorked parts last Ends said before now status

-- In a run that ends with 7 one write failed.
abbrev pub SevenHasCause : (parts : List Part) (last : Last) → Promise parts last → Type 0
SevenHasCause parts last Ends = (said : AllSaid parts last) (before now : Moment)
    → RowRuns parts last Ends said before now 7
    → now.output.faults ≡ one_more before.output.faults

-- the names of the files that are made, by what is said of parts
abbrev pub made_files : (parts : List Part) (last : Last) → AllSaid parts last → List (List ℕ)
made_files [] last said = []
made_files (Made ∷ parts) last said = said.0 ∷ made_files parts last said.1
made_files (Plant ∷ parts) last said = made_files parts last said.1
made_files (Whole kind ∷ parts) last said = made_files parts last said.1
made_files (Store ∷ parts) last said = made_files parts last said.1
made_files (Later kind ∷ parts) last said = made_files parts last said.1
made_files (Number low most ∷ parts) last said = made_files parts last said.1

-- the names of all files that a row asks for itself: those that it makes, its stores, and those that it reads later
abbrev pub own_files : (parts : List Part) (last : Last) → AllSaid parts last → List (List ℕ)
own_files [] last said = []
own_files (Made ∷ parts) last said = said.0 ∷ own_files parts last said.1
own_files (Store ∷ parts) last said = said.0 ∷ own_files parts last said.1
own_files (Later kind ∷ parts) last said = said.0 ∷ own_files parts last said.1
own_files (Plant ∷ parts) last said = own_files parts last said.1
own_files (Whole kind ∷ parts) last said = own_files parts last said.1
own_files (Number low most ∷ parts) last said = own_files parts last said.1

-- What a run left of the files: each source, each sink and each disk was given back, and no sink was made of a form without a file to
-- make; what is held of names that aren't the form's stays; their count of faults stayed unless the status is 3 or 7, and rose by one
-- at most.
pub record LeavesAll (parts : List Part) (last : Last) (said : AllSaid parts last)
    (before now : Snapshot) (status : ℕ) : Type 0 where
  pub sources : now.custody.sources.out ≡ before.custody.sources.out
  pub sinks : now.custody.sinks.out ≡ before.custody.sinks.out
  pub disks : now.custody.disks.out ≡ before.custody.disks.out
  pub unmade : made_files parts last said ≡ [] → now.custody.sinks ≡ before.custody.sinks
  pub others : (name : List ℕ)
      → (Contains (form_files parts last said ++ own_files parts last said) name → ⊥)
      → Stays (before.held name) (now.held name)
  pub stay : status ≢ 3 → status ≢ 7 → now.faults ≡ before.faults
  pub rise : (now.faults ≡ before.faults) ⊎ (now.faults ≡ one_more before.faults)

-- So every run leaves them.
abbrev pub RowsLeaveAll : (parts : List Part) (last : Last) → Promise parts last → Type 0
RowsLeaveAll parts last Ends = (said : AllSaid parts last) (before now : Moment) (status : ℕ)
    → RowRuns parts last Ends said before now status
    → LeavesAll parts last said before.files now.files status
