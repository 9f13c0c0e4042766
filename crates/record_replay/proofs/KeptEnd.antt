-- How a replay ends that keeps its states.
use Rattle.std.proofs.Common.{◌≡◌, ℕ, List, [], Option, Result, Ok, Err, false, ap, subst}
use Rattle.plant_config.specs.Plant.{PlantData}
use Rattle.plant_core.specs.State.{State}
use Rattle.plant_snapshot.specs.Store.{disk_of, saved_number}
use Rattle.plant_snapshot.specs.declared.store.Store.{Store}
use Rattle.record_replay.specs.declared.kept.KeptFault.{KeptFault}
use Rattle.record_replay.specs.declared.kept.KeptFault.TheVariants.{NoMemory}
use Rattle.record_replay.specs.declared.replayer.Replayer.{Replayer}
use Rattle.record_replay.specs.Script.{lines, worked}
use Rattle.record_replay.specs.Kept.{KeepsWorks}
use Rattle.record_replay.specs.KeptInside.{IsKeeping, KeepsTo}
use Rattle.record_replay.proofs.KeptLeft.{handed}

module _ {D : Type 0} (size : D → ℕ) (contents : D → Option (List ℕ)) (may_leave : D → List ℕ → Type 0) (moment : D → ℕ) (left_since : D → ℕ → List ℕ → Type 0) (faults : D → ℕ) (name : D → Option (List ℕ))
    (plant : PlantData) (script : List ℕ) (first : State) (store : Store D) (before : Option (List ℕ)) where
  abbrev Keeping : Option (List ℕ) → List ℕ → Replayer → Store D → Type 0
  Keeping now rest replayer kept = IsKeeping size contents may_leave moment left_since faults name plant script first store before now rest replayer kept

  abbrev EndsWith : State → Option (List ℕ) → Result (Store D) (KeptFault D) → Type 0
  EndsWith last now result = KeepsTo size contents may_leave moment left_since faults name plant script first last store before now result

  -- There was no memory for a line.
  pub runs_out : (now : Option (List ℕ)) (rest : List ℕ) (last : State) (replayer : Replayer) (kept : Store D) → Keeping now rest replayer kept → EndsWith last now (Err (NoMemory kept))
  runs_out now rest last replayer kept keeping = record {
    ok = tt;
    stands = (worked (lines rest), replayer.state, keeping.keeps);
    of_plant = keeping.of_plant;
    no_bad_line = λ number same is. cc;
    full = λ other is. absurd cc;
    unsaved = λ other is. absurd cc;
    failed = λ disk is. absurd cc;
    moments = keeping.moments;
    at_end = handed size contents may_leave plant script first store before now (worked (lines rest)) replayer.state false kept keeping.keeps keeping.of_plant;
    size_is = keeping.size_is;
    name_is = keeping.name_is;
    faults_are = keeping.faults_are;
  }

  -- All works were done.
  pub all_kept : (now : Option (List ℕ)) (rest : List ℕ) (replayer : Replayer) (kept : Store D) → rest ≡ [] → Keeping now rest replayer kept → EndsWith replayer.state now (Ok kept)
  all_kept now rest replayer kept none keeping = record {
    ok = subst (λ (left : List (List ℕ)). KeepsWorks plant script first (saved_number store) left replayer.state false before now (contents (disk_of kept)) (saved_number kept)) (ap (λ (text : List ℕ). worked (lines text)) none) keeping.keeps;
    stands = (worked (lines rest), replayer.state, keeping.keeps);
    of_plant = keeping.of_plant;
    no_bad_line = λ number same is. cc;
    full = λ other is. absurd cc;
    unsaved = λ other is. absurd cc;
    failed = λ disk is. absurd cc;
    moments = keeping.moments;
    at_end = handed size contents may_leave plant script first store before now (worked (lines rest)) replayer.state false kept keeping.keeps keeping.of_plant;
    size_is = keeping.size_is;
    name_is = keeping.name_is;
    faults_are = keeping.faults_are;
  }
