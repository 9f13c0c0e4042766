-- How a replay that keeps its states goes on from line to line.
use Rattle.std.specs.Prelude.{◌≡◌, ◌≢◌, ℕ, ◌+◌, ◌^◌, ◌<◌, ◌≤◌, false, List, length, Option, IfOk, IfSome, Result, Ok, Err}
use Rattle.ctl_io.specs.Crash.{LeavesOnly}
use Rattle.ctl_io.specs.Faults.{count_after}
use Rattle.ctl_io.specs.Sink.{appended, AppendsPart}
use Rattle.plant_config.specs.Plant.{PlantData}
use Rattle.plant_core.specs.State.{State}
use Rattle.plant_snapshot.specs.StandsFor.{StandsFor, StandsForEither}
use Rattle.plant_snapshot.specs.Store.{disk_of, saved_number, IsStoreOf}
use Rattle.plant_snapshot.specs.declared.store.Store.{Store}
use Rattle.record_replay.specs.declared.kept.KeptFault.{KeptFault}
use Rattle.record_replay.specs.declared.kept.KeptFault.TheVariants.{NoMemory, BadLine, OutputFault, Failed, Full}
use Rattle.record_replay.specs.declared.replayer.Replayer.{Replayer}
use Rattle.record_replay.specs.Script.{Work, lines, worked, LinesSpell}
use Rattle.record_replay.specs.ReplayerInside.{StandsAt}
use Rattle.record_replay.specs.Kept.{KeepsAll, KeepsSome, KeepsBut, KeepsWorks, StandsBehindLines, StandsOnTheWay, WritesFirst, store_kept, disk_kept, line_unwritten, keep_failed}

-- an output line in memory, and how often there was none for it
pub record LineData : Type 0 where
  pub text : List ℕ
  pub faults : ℕ

module _ {D : Type 0} (contents : D → Option (List ℕ)) where
  -- A state was saved under the next number in a store that wasn't full.
  pub record SavedAs (plant : PlantData) (state : State) (store saved : Store D) : Type 0 where
    pub number_is : saved_number saved ≡ saved_number store + 1
    pub room : saved_number store < 2 ^ 63
    pub stands : IfSome (contents (disk_of saved)) (StandsFor plant state (saved_number saved))

  -- A state was saved, and then a line was written; or one of the two failed.
  abbrev pub KeepsLine : PlantData → State → List ℕ → Store D → Option (List ℕ)
      → Option (List ℕ) → Result (Store D) (KeptFault D) → Type 0
  KeepsLine plant state line store before now (Ok saved) =
      SavedAs plant state store saved × (now ≡ appended before line)
  KeepsLine plant state line store before now (Err (NoMemory same)) = ⊥
  KeepsLine plant state line store before now (Err (BadLine number same)) = ⊥
  KeepsLine plant state line store before now (Err (OutputFault saved)) =
      SavedAs plant state store saved × AppendsPart line before now
  KeepsLine plant state line store before now (Err (Failed disk)) = now ≡ before
  KeepsLine plant state line store before now (Err (Full same)) =
      (same ≡ store) × (2 ^ 63 ≤ saved_number store) × (now ≡ before)

-- By what the traits say of a disk.
module _ {D : Type 0} (size : D → ℕ) (contents : D → Option (List ℕ))
    (may_leave : D → List ℕ → Type 0) (moment : D → ℕ) (left_since : D → ℕ → List ℕ → Type 0)
    (faults : D → ℕ) (name : D → Option (List ℕ)) where
  -- The save of a state in a store of this plant, and the write of a line behind it, ended so.
  pub record SavesLine (plant : PlantData) (state : State) (line : List ℕ) (store : Store D)
      (before now : Option (List ℕ)) (result : Result (Store D) (KeptFault D)) : Type 0 where
    pub keeps : KeepsLine contents plant state line store before now result
    pub of_plant : IfSome (store_kept result) (IsStoreOf size contents may_leave plant)
    pub moments : (first : State)
        → IfSome (contents (disk_of store)) (StandsFor plant first (saved_number store))
        → LeavesOnly moment left_since (disk_of store) (disk_kept result)
        (StandsForEither plant first (saved_number store) state)
    pub size_is : size (disk_kept result) ≡ size (disk_of store)
    pub name_is : name (disk_kept result) ≡ name (disk_of store)
    pub faults_are : faults (disk_kept result)
        ≡ count_after (keep_failed result) (faults (disk_of store))

  -- A replay from this state on, which this store stood for, came to this rest of the script with this store, and has written the
  -- lines of the works that it did.
  pub record IsKeeping (plant : PlantData) (script : List ℕ) (first : State) (store : Store D)
      (before now : Option (List ℕ)) (rest : List ℕ) (replayer : Replayer) (kept : Store D)
      : Type 0 where
    pub left : List Work
    pub spelled : LinesSpell plant (worked (lines rest)) left
    pub keeps : KeepsWorks plant script first (saved_number store) (worked (lines rest))
        replayer.state false before now (contents (disk_of kept)) (saved_number kept)
    pub used : ℕ
    pub stands : StandsAt plant replayer keeps.has.stand used
    pub within : used + length rest ≤ length script
    pub of_plant : IsStoreOf size contents may_leave plant kept
    pub moments : LeavesOnly moment left_since (disk_of store) (disk_of kept)
        (StandsOnTheWay plant script first (saved_number store))
    pub size_is : size (disk_of kept) ≡ size (disk_of store)
    pub name_is : name (disk_of kept) ≡ name (disk_of store)
    pub faults_are : faults (disk_of kept) ≡ faults (disk_of store)

  -- It ended so, with this last state.
  pub record KeepsTo (plant : PlantData) (script : List ℕ) (first last : State) (store : Store D)
      (before now : Option (List ℕ)) (result : Result (Store D) (KeptFault D)) : Type 0 where
    pub ok : IfOk result
        (KeepsAll contents plant script first (saved_number store) last before now)
    pub stands : IfSome (store_kept result)
        (KeepsSome contents plant script first (saved_number store)
        (line_unwritten result) before now)
    pub of_plant : IfSome (store_kept result) (IsStoreOf size contents may_leave plant)
    pub no_bad_line : (number : ℕ) (same : Store D) → result ≢ Err (BadLine number same)
    pub full : (kept : Store D) → result ≡ Err (Full kept) → 2 ^ 63 ≤ saved_number kept
    pub unsaved : (kept : Store D) → result ≡ Err (Full kept)
        → KeepsBut contents plant script first (saved_number store) before now kept
    pub failed : (disk : D) → result ≡ Err (Failed disk)
        → WritesFirst plant script first before now
    pub moments : LeavesOnly moment left_since (disk_of store) (disk_kept result)
        (StandsOnTheWay plant script first (saved_number store))
    pub at_end : (c : List ℕ) → may_leave (disk_kept result) c
        → StandsBehindLines plant script first (saved_number store) before now c
    pub size_is : size (disk_kept result) ≡ size (disk_of store)
    pub name_is : name (disk_kept result) ≡ name (disk_of store)
    pub faults_are : faults (disk_kept result)
        ≡ count_after (keep_failed result) (faults (disk_of store))
