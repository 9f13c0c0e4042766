-- What a replay does that keeps the state behind each line: how far it came, what it wrote, and what it left in its store.
use Rattle.std.specs.Prelude.{◌≡◌, ◌⊎◌, ℕ, ◌+◌, ◌^◌, ◌≤◌, Bool, true, false, List, [], ◌∷◌, ◌++◌, length, Option, None, Some, IfSome, Result, Ok, Err}
use Rattle.ctl_io.specs.Sink.{appended, AppendsPart}
use Rattle.plant_config.specs.Plant.{PlantData}
use Rattle.plant_core.specs.State.{State}
use Rattle.plant_snapshot.specs.StandsFor.{StandsFor}
use Rattle.plant_snapshot.specs.Store.{disk_of, saved_number}
use Rattle.plant_snapshot.specs.declared.store.Store.{Store}
use Rattle.record_replay.specs.declared.kept.KeptFault.{KeptFault}
use Rattle.record_replay.specs.declared.kept.KeptFault.TheVariants.{NoMemory, BadLine, OutputFault, Failed, Full}
use Rattle.record_replay.specs.Script.{Work, lines, worked, LinesSpell}
use Rattle.record_replay.specs.Replay.{ReplayState, AllWork}
use Rattle.panel_session.specs.SoFar.{nothing_yet}

-- where a replay stands that begins in this state: no session has done anything
abbrev pub begun_in : State → ReplayState
begun_in state = record { state = state; pasts = λ panel. nothing_yet }

-- The works of the first so many lines of a script, skipped ones not counted, lead from one state to another, with these output
-- lines. Behind them these lines are left.
pub record HasWorked (plant : PlantData) (script : List ℕ) (first : State)
    (left : List (List ℕ)) (count : ℕ) (output : List ℕ) (last : State) : Type 0 where
  pub front : List (List ℕ)
  pub place : worked (lines script) ≡ front ++ left
  pub done : List Work
  pub spelled : LinesSpell plant front done
  pub count_is : count ≡ length done
  pub stand : ReplayState
  pub all_work : AllWork plant done (begun_in first) output stand
  pub state_is : last ≡ stand.state

-- ---- what is left in the store

-- Contents stand for the state behind the first works of a script that was begun in this state. The store had this number then, and
-- each work adds one.
pub record StandsOnTheWay (plant : PlantData) (script : List ℕ) (first : State) (number : ℕ)
    (all : List ℕ) : Type 0 where
  pub left : List (List ℕ)
  pub count : ℕ
  pub output : List ℕ
  pub last : State
  pub has : HasWorked plant script first left count output last
  pub stands : StandsFor plant last (number + count) all

-- A sink was given a front of this text, and perhaps all of it.
pub record WroteFront (text : List ℕ) (before now : Option (List ℕ)) : Type 0 where
  pub front : List ℕ
  pub rest : List ℕ
  pub place : text ≡ front ++ rest
  pub appends : now ≡ appended before front

-- So they do, and of the output lines of these works a sink was given a front: no line was written whole whose work isn't kept.
pub record StandsBehindLines (plant : PlantData) (script : List ℕ) (first : State) (number : ℕ)
    (before now : Option (List ℕ)) (all : List ℕ) : Type 0 where
  pub way : StandsOnTheWay plant script first number all
  pub wrote : WroteFront way.output before now

-- The output lines of the first works of a script were written whole, and nothing behind them.
pub record WritesFirst (plant : PlantData) (script : List ℕ) (first : State)
    (before now : Option (List ℕ)) : Type 0 where
  pub left : List (List ℕ)
  pub count : ℕ
  pub output : List ℕ
  pub last : State
  pub has : HasWorked plant script first left count output last
  pub appends : now ≡ appended before output

-- ---- what is answered

-- the store that is handed back, unless a call of the disk failed
abbrev pub store_kept : {D : Type 0} → Result (Store D) (KeptFault D) → Option (Store D)
store_kept (Ok store) = Some store
store_kept (Err (NoMemory store)) = Some store
store_kept (Err (BadLine number store)) = Some store
store_kept (Err (OutputFault store)) = Some store
store_kept (Err (Failed disk)) = None
store_kept (Err (Full store)) = Some store

-- the disk that is handed back, in a store or by itself
abbrev pub disk_kept : {D : Type 0} → Result (Store D) (KeptFault D) → D
disk_kept (Ok store) = disk_of store
disk_kept (Err (NoMemory store)) = disk_of store
disk_kept (Err (BadLine number store)) = disk_of store
disk_kept (Err (OutputFault store)) = disk_of store
disk_kept (Err (Failed disk)) = disk
disk_kept (Err (Full store)) = disk_of store

-- whether a write of the output failed, and whether a call of the disk did
abbrev pub line_unwritten : {D : Type 0} → Result (Store D) (KeptFault D) → Bool
line_unwritten (Ok store) = false
line_unwritten (Err (NoMemory store)) = false
line_unwritten (Err (BadLine number store)) = false
line_unwritten (Err (OutputFault store)) = true
line_unwritten (Err (Failed disk)) = false
line_unwritten (Err (Full store)) = false

abbrev pub keep_failed : {D : Type 0} → Result (Store D) (KeptFault D) → Bool
keep_failed (Ok store) = false
keep_failed (Err (NoMemory store)) = false
keep_failed (Err (BadLine number store)) = false
keep_failed (Err (OutputFault store)) = false
keep_failed (Err (Failed disk)) = true
keep_failed (Err (Full store)) = false

-- what a sink was given of output lines: all of them, or where a write failed a shorter front
abbrev pub WroteLines : Bool → List ℕ → Option (List ℕ) → Option (List ℕ) → Type 0
WroteLines false output before now = now ≡ appended before output
WroteLines true output before now = AppendsPart output before now

-- A store stands for the state behind the first works of a script, behind which these lines are left, and the output lines of the
-- works were written. No save was made at a number of 2^63 or more.
pub record KeepsWorks (plant : PlantData) (script : List ℕ) (first : State) (number : ℕ)
    (left : List (List ℕ)) (last : State) (failed : Bool) (before now : Option (List ℕ))
    (shown : Option (List ℕ)) (number_now : ℕ) : Type 0 where
  pub count : ℕ
  pub output : List ℕ
  pub has : HasWorked plant script first left count output last
  pub number_is : number_now ≡ number + count
  pub stands : IfSome shown (StandsFor plant last number_now)
  pub few : (count ≡ 0) ⊎ (number_now ≤ 2 ^ 63)
  pub wrote : WroteLines failed output before now

-- So it does with some lines left.
abbrev pub KeepsSome : {D : Type 0} → (D → Option (List ℕ)) → PlantData → List ℕ → State → ℕ
    → Bool → Option (List ℕ) → Option (List ℕ) → Store D → Type 0
KeepsSome contents plant script first number failed before now store =
    (left : List (List ℕ)) × (last : State)
    × KeepsWorks plant script first number left last failed before now (contents (disk_of store))
    (saved_number store)

-- So it does with none left.
abbrev pub KeepsAll : {D : Type 0} → (D → Option (List ℕ)) → PlantData → List ℕ → State → ℕ
    → State → Option (List ℕ) → Option (List ℕ) → Store D → Type 0
KeepsAll contents plant script first number last before now store =
    KeepsWorks plant script first number [] last false before now (contents (disk_of store))
    (saved_number store)

-- So it does with a line of work left, the first whose work isn't kept.
abbrev pub KeepsBut : {D : Type 0} → (D → Option (List ℕ)) → PlantData → List ℕ → State → ℕ
    → Option (List ℕ) → Option (List ℕ) → Store D → Type 0
KeepsBut contents plant script first number before now store =
    (line : List ℕ) × (later : List (List ℕ)) × (last : State)
    × KeepsWorks plant script first number (line ∷ later) last false before now
    (contents (disk_of store)) (saved_number store)
