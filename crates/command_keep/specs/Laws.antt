-- What the status of a keep tells.
use Rattle.std.specs.Prelude.{◌≡◌, ◌⊎◌, ℕ, ◌+◌, ◌^◌, ◌<◌, ◌≤◌, List, [], ◌++◌, length, Ok}
use Rattle.ctl_io.specs.Custody.{DiskEnd}
use Rattle.ctl_io.specs.DiskPast.{DiskPast, stored_since}
use Rattle.ctl_io.specs.Held.{IsNamed, Holds}
use Rattle.ctl_io.specs.Sink.{appended}
use Rattle.plant_config.specs.Plant.{PlantData}
use Rattle.plant_core.specs.State.{State}
use Rattle.plant_snapshot.specs.StandsFor.{store_size, StandsFor}
use Rattle.record_replay.specs.Script.{Work, lines, worked, LinesSpell}
use Rattle.record_replay.specs.Kept.{StandsOnTheWay}
use Rattle.command_words.specs.Parts.{Plant, NoMore, AllSaid}
use Rattle.command_rows.specs.Kinds.{script}
use Rattle.command_rows.specs.Lines.{file_fault, file_missing, no_memory}
use Rattle.command_rows.specs.Moment.{Snapshot, Moment}
use Rattle.command_rows.specs.LentDisk.{FailsToLend, LendsDisk, LeavesSince, MissesDisk, TakesDiskBack}
use Rattle.command_rows.specs.End.{TooLong}
use Rattle.command_rows.specs.Opener.{AllLead, ReadsWhole}
use Rattle.command_rows.specs.OpenerLaws.{part_files}
use Rattle.command_rows.specs.Row.{RowRuns}
use Rattle.command_rows.specs.RowLaws.{WasKept, WasStopped as StoppedAtOpening}
use Rattle.command_rows.specs.Shown.{AllShow, WholeShows, behind_all}
use Rattle.command_keep.specs.Keep.{parts, saved, Outcome, WasStopped, WrongSize, Damaged, BadLine, Full, told_end, StoodFor, MightBe, KeepsFirst, EndsOnDisk, KeepRow}

-- ---- 0

-- A script was kept: from the state that the store stood for all its works were done and saved, whatever a crash leaves of the store
-- now stands for the state behind them, and exactly their output lines and the number were appended.
pub record HasKept (said : AllSaid parts NoMore) (before now : Moment) : Type 0 where
  pub plant : PlantData
  pub store : List ℕ
  pub name : List ℕ
  pub opened : Snapshot
  pub lead : AllLead parts NoMore said before.files opened (Ok (plant, (store, (name, tt))))
  pub between : Snapshot
  pub lends : LendsDisk store opened between
  pub first : State
  pub number : ℕ
  pub stood : StoodFor plant (opened.disks store 0) first number
  pub after : Snapshot
  pub text : List ℕ
  pub reads : ReadsWhole script.word script.longest name between after (Ok text)
  pub shown : DiskEnd
  pub named : IsNamed store shown.name
  pub output : List ℕ
  pub last_number : ℕ
  pub keeps : KeepsFirst plant text first number shown [] output last_number
  pub since : LeavesSince (opened.disks store 0) shown.past
      (λ c. MightBe (opened.disks store 0) c ⊎ StandsOnTheWay plant text first number c)
  pub takes : TakesDiskBack shown after now.files
  pub appends :
      now.output.written ≡ appended before.output.written (output ++ saved last_number)

-- A run that ends with 0 has kept its script.
abbrev pub ZeroHasKept : Type 0
ZeroHasKept = (said : AllSaid parts NoMore) (before now : Moment)
    → RowRuns parts NoMore KeepRow said before now 0 → HasKept said before now

-- ---- 1, 3 and 5

-- The store was handed out and given back, and this came of it: the line that tells that stands behind the output lines, and nothing
-- else was appended.
pub record CameToEnd (said : AllSaid parts NoMore) (before now : Moment) (status : ℕ)
    : Type 0 where
  pub plant : PlantData
  pub store : List ℕ
  pub name : List ℕ
  pub opened : Snapshot
  pub lead : AllLead parts NoMore said before.files opened (Ok (plant, (store, (name, tt))))
  pub between : Snapshot
  pub lends : LendsDisk store opened between
  pub after : Snapshot
  pub shown : DiskEnd
  pub named : IsNamed store shown.name
  pub takes : TakesDiskBack shown after now.files
  pub output : List ℕ
  pub outcome : Outcome
  pub ends : EndsOnDisk plant name (opened.disks store 0) between after shown output
      before.output.written outcome
  pub status_is : status ≡ (told_end store outcome).status
  pub appends : now.output.written
      ≡ appended before.output.written (output ++ (told_end store outcome).text)

-- Memory ran out before the store was asked for, and exactly the line that says so was appended.
pub record HadNoMemory (said : AllSaid parts NoMore) (before now : Moment) : Type 0 where
  pub plant : PlantData
  pub store : List ℕ
  pub name : List ℕ
  pub lead : AllLead parts NoMore said before.files now.files (Ok (plant, (store, (name, tt))))
  pub appends : now.output.written ≡ appended before.output.written no_memory

-- A run that ends with 1 ran out of memory at its plant's file, before its store, or with its store in hand, behind the output lines
-- of the works that are saved.
abbrev pub OneHadNoMemory : Type 0
OneHadNoMemory = (said : AllSaid parts NoMore) (before now : Moment)
    → RowRuns parts NoMore KeepRow said before now 1
    → StoppedAtOpening parts NoMore said before now 1 ⊎ HadNoMemory said before now
    ⊎ CameToEnd said before now 1

-- There is no such store, or the files failed at it, and exactly the line that says so was appended.
pub record HadNoStore (said : AllSaid parts NoMore) (before now : Moment) : Type 0 where
  pub plant : PlantData
  pub store : List ℕ
  pub name : List ℕ
  pub opened : Snapshot
  pub lead : AllLead parts NoMore said before.files opened (Ok (plant, (store, (name, tt))))
  pub why : (MissesDisk store opened now.files
      × (now.output.written ≡ appended before.output.written (file_missing store)))
      ⊎ (FailsToLend store opened now.files
      × (now.output.written ≡ appended before.output.written (file_fault store)))

-- A run that ends with 3 was stopped at a file that is missing or failed: its plant's, its store, or its script.
abbrev pub ThreeHasFault : Type 0
ThreeHasFault = (said : AllSaid parts NoMore) (before now : Moment)
    → RowRuns parts NoMore KeepRow said before now 3
    → StoppedAtOpening parts NoMore said before now 3 ⊎ HadNoStore said before now
    ⊎ CameToEnd said before now 3

-- A store was refused or is full, or a script was.
abbrev pub IsRefusal : Outcome → Type 0
IsRefusal (WasStopped (TooLong word)) = Unit {0}
IsRefusal (WrongSize found wanted) = Unit {0}
IsRefusal (Damaged slot place) = Unit {0}
IsRefusal (BadLine number) = Unit {0}
IsRefusal Full = Unit {0}
IsRefusal other = ⊥

-- A run that ends with 5 has refused its store or its script, or its store is full.
abbrev pub FiveHasRefused : Type 0
FiveHasRefused = (said : AllSaid parts NoMore) (before now : Moment)
    → RowRuns parts NoMore KeepRow said before now 5
    → (came : CameToEnd said before now 5) × IsRefusal came.outcome

-- ---- what always comes

-- The files show the plant, a store of the plant that stands for this state under this number, and a script with this text, each line
-- of which that isn't skipped spells a work.
pub record ShowsKeep (said : AllSaid parts NoMore) (files : Snapshot) (first : State)
    (number : ℕ) (works : List Work) : Type 0 where
  pub plant : PlantData
  pub store : List ℕ
  pub name : List ℕ
  pub show : AllShow parts NoMore said files.held (Ok (plant, (store, (name, tt))))
  pub past : DiskPast
  pub there : files.disks store 0 ≡ Holds past
  pub size : length (stored_since past).present ≡ store_size plant
  pub stands : StandsFor plant first number (stored_since past).present
  pub text : List ℕ
  pub reads : WholeShows script.word script.longest name
      (behind_all (part_files Plant said.0) files.held name 0) (Ok text)
  pub spelled : LinesSpell plant (worked (lines text)) works

-- Behind this number so many works can be saved: the last under 2^63 at most.
abbrev pub HasRoom : (number count : ℕ) → Type 0
HasRoom number count = (count ≡ 0) ⊎ (number + count ≤ 2 ^ 63)

-- A run ends with 5 since its store is full behind so many of the works, and there are more: under so great a number nothing is saved.
pub record FillsStore (number : ℕ) (works : List Work) (status : ℕ) : Type 0 where
  pub status_is : status ≡ 5
  pub count : ℕ
  pub room : HasRoom number count
  pub more : count < length works
  pub full : 2 ^ 63 ≤ number + count

-- Such a store and script lead to 0, if there is room for all works, or fill the store, unless the run is kept from its end.
abbrev pub ShownIsKept : Type 0
ShownIsKept = (said : AllSaid parts NoMore) (first : State) (number : ℕ) (works : List Work)
    (before now : Moment) (status : ℕ) → ShowsKeep said before.files first number works
    → RowRuns parts NoMore KeepRow said before now status
    → ((status ≡ 0) × HasRoom number (length works)) ⊎ FillsStore number works status
    ⊎ WasKept before now status
