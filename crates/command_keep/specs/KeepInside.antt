-- How a keep goes on in the code, before its end is written out.
use Rattle.std.specs.Prelude.{◌≡◌, ◌⊎◌, ℕ, Bool, true, false, List, Option, Result, Ok, Err}
use Rattle.ctl_io.specs.Custody.{DiskEnd}
use Rattle.ctl_io.specs.DiskPast.{DiskPast}
use Rattle.ctl_io.specs.Held.{HeldOf}
use Rattle.ctl_io.specs.Sink.{appended, AppendsPart}
use Rattle.plant_config.specs.Plant.{PlantData}
use Rattle.plant_core.specs.State.{State}
use Rattle.plant_snapshot.specs.Store.{saved_number}
use Rattle.plant_snapshot.specs.declared.store.Store.{Store as Kept_in}
use Rattle.plant_snapshot.specs.declared.fault.OpenFault.{OpenFault}
use Rattle.plant_snapshot.specs.declared.fault.OpenFault.TheVariants as opens
use Rattle.record_replay.specs.Script.{HasWorks}
use Rattle.record_replay.specs.declared.kept.KeptFault.{KeptFault}
use Rattle.record_replay.specs.declared.kept.KeptFault.TheVariants as keeps
use Rattle.command_rows.specs.Moment.{Snapshot, Output}
use Rattle.command_rows.specs.End.{NoMemory, ComesTo, unwritten_status}
use Rattle.command_rows.specs.StopInside.{stopped_of}
use Rattle.command_keep.specs.declared.outcome.Outcome.{Outcome as Found}
use Rattle.command_keep.specs.declared.outcome.Outcome.TheVariants as found
use Rattle.command_keep.specs.Keep.{Outcome, Kept, WasStopped, StoreFailed, WrongSize, Damaged, BadLine, Full, Unwritten, told_end, LeavesState, EndsOnDisk, RunsTo}

-- what came of a keep, as the definitions call it
abbrev pub outcome_of : Found → Outcome
outcome_of (found.Kept number) = Kept number
outcome_of (found.Stopped stop) = WasStopped (stopped_of stop)
outcome_of found.Failed = StoreFailed
outcome_of (found.WrongSize size wanted) = WrongSize size wanted
outcome_of (found.Damaged slot place) = Damaged slot place
outcome_of (found.BadLine number) = BadLine number
outcome_of found.Full = Full
outcome_of found.Unwritten = Unwritten

-- what came of an opening that failed, and of a replay
abbrev pub outcome_unopened : {D : Type 0} → OpenFault D → Outcome
outcome_unopened (opens.NoMemory disk) = WasStopped NoMemory
outcome_unopened (opens.WrongSize disk size wanted) = WrongSize size wanted
outcome_unopened (opens.Failed disk) = StoreFailed
outcome_unopened (opens.Damaged disk slot place) = Damaged slot place

abbrev pub outcome_kept : {D : Type 0} → Result (Kept_in D) (KeptFault D) → Outcome
outcome_kept (Ok store) = Kept (saved_number store)
outcome_kept (Err (keeps.NoMemory store)) = WasStopped NoMemory
outcome_kept (Err (keeps.BadLine number store)) = BadLine number
outcome_kept (Err (keeps.OutputFault store)) = Unwritten
outcome_kept (Err (keeps.Failed disk)) = StoreFailed
outcome_kept (Err (keeps.Full store)) = Full

-- whether a write of an output line failed
abbrev pub is_unwritten : Outcome → Bool
is_unwritten Unwritten = true
is_unwritten other = false

-- The output lines were written, or where a write failed a shorter front of them.
abbrev pub WroteOutput : Outcome → List ℕ → Option (List ℕ) → Option (List ℕ) → Type 0
WroteOutput Unwritten output before now = AppendsPart output before now
WroteOutput other output before now = now ≡ appended before output

-- A script was gone on with so.
pub record RunsSo (plant : PlantData) (text : List ℕ) (first : State) (number : ℕ)
    (shown : DiskEnd) (before now : Option (List ℕ)) (outcome : Outcome) : Type 0 where
  pub form : HasWorks plant text ⊎ LeavesState plant first number shown
  pub output : List ℕ
  pub runs : RunsTo plant text first number shown output before outcome
  pub wrote : WroteOutput outcome output before now

-- A keep went so on a disk that was handed out.
pub record KeepsOn (plant : PlantData) (name : List ℕ) (held : HeldOf DiskPast)
    (between after : Snapshot) (shown : DiskEnd) (before now : Option (List ℕ))
    (outcome : Outcome) : Type 0 where
  pub output : List ℕ
  pub ends : EndsOnDisk plant name held between after shown output before outcome
  pub wrote : WroteOutput outcome output before now

-- Nothing is left to say of an output that failed.
pub record SaysNothing (status : ℕ) (before now : Output) : Type 0 where
  pub status_is : status ≡ unwritten_status
  pub same : now ≡ before

-- What came of a keep in the store of this name is told, behind the output lines.
abbrev pub TellsOutcome : (store : List ℕ) → Outcome → Output → Output → ℕ → Type 0
TellsOutcome store Unwritten before now status = SaysNothing status before now
TellsOutcome store other before now status = ComesTo (told_end store other) status before now
