-- What a crash may leave of a store that stands for works.
use Rattle.std.proofs.Common.{ℕ, Bool, List, Option, subst}
use Rattle.std.specs.Prelude.{IfSome}
use Rattle.plant_config.specs.Plant.{PlantData}
use Rattle.plant_core.specs.State.{State}
use Rattle.plant_snapshot.specs.StandsFor.{StandsFor}
use Rattle.plant_snapshot.specs.Store.{disk_of, saved_number, IsStoreOf}
use Rattle.plant_snapshot.specs.declared.store.Store.{Store}
use Rattle.record_replay.specs.Kept.{StandsBehindLines, KeepsWorks}
use Rattle.record_replay.proofs.KeptWorks.{front_of}

module _ {D : Type 0} (size : D → ℕ) (contents : D → Option (List ℕ)) (may_leave : D → List ℕ → Type 0) where
  -- What a store of the plant shows has P, and so has what a crash may leave.
  left_has : (plant : PlantData) (kept : Store D) (P : List ℕ → Type 0) → IsStoreOf size contents may_leave plant kept → IfSome (contents (disk_of kept)) P → (c : List ℕ) → may_leave (disk_of kept) c → P c
  left_has plant kept P of_plant has c left = subst (λ (shown : Option (List ℕ)). IfSome shown P) (of_plant.settled.lasts c left) has

  -- A store that stands for some of the works leaves no less than what was written.
  pub handed : (plant : PlantData) (script : List ℕ) (first : State) (store : Store D) (before : Option (List ℕ)) (now : Option (List ℕ)) (left : List (List ℕ)) (last : State) (failed : Bool) (kept : Store D)
      → KeepsWorks plant script first (saved_number store) left last failed before now (contents (disk_of kept)) (saved_number kept) → IsStoreOf size contents may_leave plant kept
      → (c : List ℕ) → may_leave (disk_of kept) c → StandsBehindLines plant script first (saved_number store) before now c
  handed plant script first store before now left last failed kept keeps of_plant c may = record {
    way = record {
      left = left;
      count = keeps.count;
      output = keeps.output;
      last = last;
      has = keeps.has;
      stands = subst (λ (n : ℕ). StandsFor plant last n c) keeps.number_is (left_has plant kept (StandsFor plant last (saved_number kept)) of_plant keeps.stands c may);
    };
    wrote = front_of failed keeps.output before now keeps.wrote;
  }
