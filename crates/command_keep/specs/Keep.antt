-- The command `keep`: what is given for its form, how it may end, and why, and what it leaves in the store that it goes on from.
use Rattle.std.specs.Prelude.{◌≡◌, ◌≢◌, ◌⊎◌, ℕ, ◌+◌, ◌^◌, ◌≤◌, true, List, [], ◌∷◌, ◌++◌, codes, length, Option, Ok, Err}
use Rattle.std.specs.Fmt.{decimal}
use Rattle.ctl_io.specs.Custody.{DiskEnd}
use Rattle.ctl_io.specs.DiskPast.{DiskPast, MayLeave, stored_since}
use Rattle.ctl_io.specs.Faults.{is_faulty}
use Rattle.ctl_io.specs.Held.{HeldOf, IfHeld, IsNamed, Stays}
use Rattle.ctl_io.specs.Sink.{appended}
use Rattle.plant_config.specs.Plant.{PlantData}
use Rattle.plant_core.specs.State.{State}
use Rattle.plant_snapshot.specs.StandsFor.{store_size, StandsFor}
use Rattle.plant_snapshot.specs.Damage.{IsDamaged}
use Rattle.record_replay.specs.Script.{HasWorks, IsFirstBad}
use Rattle.record_replay.specs.Kept.{HasWorked, StandsOnTheWay, StandsBehindLines}
use Rattle.command_words.specs.Parts.{Part, Plant, Store, Later, NoMore}
use Rattle.command_rows.specs.Kinds.{script}
use Rattle.command_rows.specs.Lines.{line, line_refused}
use Rattle.command_rows.specs.Moment.{Snapshot, Moment}
use Rattle.command_rows.specs.LentDisk.{FailsToLend, LendsDisk, LeavesNow, LeavesSince, MissesDisk, TakesDiskBack}
use Rattle.command_rows.specs.Opener.{ReadsWhole}
use Rattle.command_rows.specs.End.{End, Stopped, NoMemory, FileMissing, behind, done, ended, file_failed, out_of_memory, stopped_end, unwritten_status}
use Rattle.command_rows.specs.Row.{Promise}

-- the parts of its form: its store is opened before its script is read
abbrev pub parts : List Part
parts = Plant ∷ Store ∷ Later script ∷ []

-- ---- its lines

-- the line of a store that was saved to under this number last
abbrev pub saved : ℕ → List ℕ
saved number = line (codes "saved " ++ decimal number)

-- those of a store that isn't opened, and of one that nothing more can be saved to
abbrev pub wrong_size : (found wanted : ℕ) → List ℕ
wrong_size found wanted =
    line (codes "store refused: WrongSize found " ++ decimal found ++ codes " wanted " ++ decimal wanted)

abbrev pub damaged : (slot place : ℕ) → List ℕ
damaged slot place =
    line (codes "store refused: Damaged slot " ++ decimal slot ++ codes " place " ++ decimal place)

abbrev pub store_full : List ℕ
store_full = line (codes "store full")

-- ---- what came of it

-- What came of a keep whose store was there: all was kept, under this number last; memory ran out or the script stopped it; a call of
-- the store's disk failed; the store has another size than the plant's stores, or is damaged; this line of the script has no form; the
-- store's number is too great; or an output line couldn't be written.
pub data Outcome : Type 0 where
  Kept : (number : ℕ) → Outcome
  WasStopped : (stopped : Stopped) → Outcome
  StoreFailed : Outcome
  WrongSize : (found wanted : ℕ) → Outcome
  Damaged : (slot place : ℕ) → Outcome
  BadLine : (number : ℕ) → Outcome
  Full : Outcome
  Unwritten : Outcome

-- the end that it is told by, for the store of this name, behind the output lines
abbrev pub told_end : List ℕ → Outcome → End
told_end store (Kept number) = done (saved number)
told_end store (WasStopped stopped) = stopped_end stopped
told_end store StoreFailed = file_failed store
told_end store (WrongSize found wanted) = ended 5 (wrong_size found wanted)
told_end store (Damaged slot place) = ended 5 (damaged slot place)
told_end store (BadLine number) = ended 5 (line_refused number)
told_end store Full = ended 5 store_full
told_end store Unwritten = done []

-- ---- the store

-- The store had as many bytes as the plant's stores, where the files show what they hold of it.
abbrev pub HadSize : PlantData → HeldOf DiskPast → Type 0
HadSize plant held = IfHeld held (λ past. length (stored_since past).present ≡ store_size plant)

-- The store stood for this state under this number, where the files show what they hold of it.
abbrev pub StoodFor : PlantData → HeldOf DiskPast → State → ℕ → Type 0
StoodFor plant held state number =
    IfHeld held (λ past. StandsFor plant state number (stored_since past).present)

-- A crash might have left this of the store before.
abbrev pub MightBe : HeldOf DiskPast → List ℕ → Type 0
MightBe held c = IfHeld held (λ past. MayLeave (stored_since past) c)

-- A disk shows no fault, and whatever a crash leaves of it now stands for this state under this number.
pub record LeavesState (plant : PlantData) (state : State) (number : ℕ) (shown : DiskEnd)
    : Type 0 where
  pub no_faults : shown.faults ≡ 0
  pub leaves : LeavesNow shown.past (StandsFor plant state number)

-- The first works of a script, behind which these lines are left, were done and saved, the last of them under this number, which is
-- at most 2^63 if there are any, and have these output lines.
pub record KeepsFirst (plant : PlantData) (text : List ℕ) (first : State) (number : ℕ)
    (shown : DiskEnd) (left : List (List ℕ)) (output : List ℕ) (last_number : ℕ) : Type 0 where
  pub count : ℕ
  pub last : State
  pub has : HasWorked plant text first left count output last
  pub number_is : last_number ≡ number + count
  pub few : (count ≡ 0) ⊎ (last_number ≤ 2 ^ 63)
  pub leaves : LeavesState plant last last_number shown

-- So it was with some lines left.
abbrev pub KeepsSomeOf : PlantData → List ℕ → State → ℕ → DiskEnd → List ℕ → ℕ → Type 0
KeepsSomeOf plant text first number shown output last_number =
    (left : List (List ℕ)) × KeepsFirst plant text first number shown left output last_number

-- So it was with this line left and those behind it.
abbrev pub KeepsBefore : PlantData → List ℕ → State → ℕ → DiskEnd → List ℕ → ℕ → Type 0
KeepsBefore plant text first number shown output last_number =
    (line : List ℕ) × (later : List (List ℕ))
    × KeepsFirst plant text first number shown (line ∷ later) output last_number

-- A save failed. The output lines are those of the first works; whatever a crash leaves of the disk stands for the state behind
-- these or more, and no line was written whole whose work isn't kept.
pub record FailsAtSave (plant : PlantData) (text : List ℕ) (first : State) (number : ℕ)
    (shown : DiskEnd) (output : List ℕ) (before : Option (List ℕ)) : Type 0 where
  pub left : List (List ℕ)
  pub count : ℕ
  pub last : State
  pub has : HasWorked plant text first left count output last
  pub faulty : is_faulty shown.faults ≡ true
  pub leaves : LeavesNow shown.past
      (StandsBehindLines plant text first number before (appended before output))

-- ---- why it ended

-- This is why the store wasn't opened, of which the files held this.
abbrev pub Unopened : PlantData → HeldOf DiskPast → DiskEnd → Outcome → Type 0
Unopened plant held shown (WasStopped NoMemory) = (shown.faults ≡ 0) × HadSize plant held
Unopened plant held shown StoreFailed = (is_faulty shown.faults ≡ true) × HadSize plant held
Unopened plant held shown (WrongSize found wanted) =
    (shown.faults ≡ 0) × (wanted ≡ store_size plant) × (found ≢ wanted)
    × IfHeld held (λ past. length (stored_since past).present ≡ found)
Unopened plant held shown (Damaged slot place) =
    (shown.faults ≡ 0) × HadSize plant held
    × IfHeld held (λ past. IsDamaged plant slot place (stored_since past).present)
Unopened plant held shown other = ⊥

-- This came of a script with this text, from the state and the number that the store stood for, with these output lines.
abbrev pub RunsTo : PlantData → (text : List ℕ) → State → (number : ℕ) → DiskEnd
    → (output : List ℕ) → (before : Option (List ℕ)) → Outcome → Type 0
RunsTo plant text first number shown output before (Kept last_number) =
    KeepsFirst plant text first number shown [] output last_number
RunsTo plant text first number shown output before (WasStopped NoMemory) =
    (last_number : ℕ) × KeepsSomeOf plant text first number shown output last_number
RunsTo plant text first number shown output before StoreFailed =
    FailsAtSave plant text first number shown output before
RunsTo plant text first number shown output before (BadLine line) =
    (output ≡ []) × IsFirstBad plant text line × LeavesState plant first number shown
RunsTo plant text first number shown output before Full =
    (last_number : ℕ) × (2 ^ 63 ≤ last_number)
    × KeepsBefore plant text first number shown output last_number
RunsTo plant text first number shown output before Unwritten =
    (last_number : ℕ) × KeepsSomeOf plant text first number shown output last_number
RunsTo plant text first number shown output before other = ⊥

-- The store wasn't opened. Nothing was written to it, and the script wasn't looked for.
pub record EndsUnopened (plant : PlantData) (held : HeldOf DiskPast) (between after : Snapshot)
    (shown : DiskEnd) (output : List ℕ) (outcome : Outcome) : Type 0 where
  pub none : output ≡ []
  pub unread : after ≡ between
  pub why : Unopened plant held shown outcome
  pub since : LeavesSince held shown.past (MightBe held)

-- The store was opened, and the script stopped the run: it is missing, failed or too long, or there was no memory for it. Nothing was
-- written to the store.
pub record EndsUnread (plant : PlantData) (name : List ℕ) (held : HeldOf DiskPast)
    (between after : Snapshot) (shown : DiskEnd) (output : List ℕ) (outcome : Outcome)
    : Type 0 where
  pub none : output ≡ []
  pub sized : HadSize plant held
  pub first : State
  pub number : ℕ
  pub stood : StoodFor plant held first number
  pub stopped : Stopped
  pub outcome_is : outcome ≡ WasStopped stopped
  pub reads : ReadsWhole script.word script.longest name between after (Err stopped)
  pub leaves : LeavesState plant first number shown
  pub since : LeavesSince held shown.past (MightBe held)

-- The store was opened and the script read. Each line that isn't skipped spells a work, or nothing was saved. Whatever a crash left
-- of the store at any moment since it was handed out stands for the state behind some works of the script, or might have been left
-- before.
pub record EndsRun (plant : PlantData) (name : List ℕ) (held : HeldOf DiskPast)
    (between after : Snapshot) (shown : DiskEnd) (output : List ℕ) (before : Option (List ℕ))
    (outcome : Outcome) : Type 0 where
  pub sized : HadSize plant held
  pub first : State
  pub number : ℕ
  pub stood : StoodFor plant held first number
  pub text : List ℕ
  pub reads : ReadsWhole script.word script.longest name between after (Ok text)
  pub form : HasWorks plant text ⊎ LeavesState plant first number shown
  pub runs : RunsTo plant text first number shown output before outcome
  pub since : LeavesSince held shown.past
      (λ c. MightBe held c ⊎ StandsOnTheWay plant text first number c)

-- One of the three.
abbrev pub EndsOnDisk : PlantData → (name : List ℕ) → HeldOf DiskPast → Snapshot → Snapshot
    → DiskEnd → (output : List ℕ) → (before : Option (List ℕ)) → Outcome → Type 0
EndsOnDisk plant name held between after shown output before outcome =
    EndsUnopened plant held between after shown output outcome
    ⊎ EndsUnread plant name held between after shown output outcome
    ⊎ EndsRun plant name held between after shown output before outcome

-- The store was handed out, its name being opened as no source then, and what was given back for it shows how the run ended. Where a
-- write of an output line failed, the status is that of the output.
pub record EndsLent (plant : PlantData) (store name : List ℕ) (before now : Moment) (end : End)
    (status : ℕ) : Type 0 where
  pub between : Snapshot
  pub lends : LendsDisk store before.files between
  pub same : Stays (before.files.held store) (between.held store)
  pub after : Snapshot
  pub shown : DiskEnd
  pub named : IsNamed store shown.name
  pub takes : TakesDiskBack shown after now.files
  pub output : List ℕ
  pub outcome : Outcome
  pub ends : EndsOnDisk plant name (before.files.disks store 0) between after shown output
      before.output.written outcome
  pub end_is : end ≡ behind output (told_end store outcome)
  pub unwritten : outcome ≡ Unwritten → status ≡ unwritten_status

-- A keep of this script in the store of this name ends so, between two moments, with this status of the run: memory ran out before
-- the store was asked for, it is missing, the files failed, or it was handed out.
abbrev pub KeepEnds : PlantData → (store name : List ℕ) → Moment → Moment → End → ℕ → Type 0
KeepEnds plant store name before now end status =
    ((end ≡ out_of_memory) × (now.files ≡ before.files))
    ⊎ ((end ≡ stopped_end (FileMissing store)) × MissesDisk store before.files now.files)
    ⊎ ((end ≡ file_failed store) × FailsToLend store before.files now.files)
    ⊎ EndsLent plant store name before now end status

-- What it promises of the plant and the names that are given.
abbrev pub KeepRow : Promise parts NoMore
KeepRow given before now end status =
    KeepEnds given.0 given.1.0 given.1.1.0 before now end status
