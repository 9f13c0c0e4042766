-- What an update does: from marks that are settled for what stood to marks that are settled for what stands.
use Rattle.std.specs.Prelude.{◌≡◌, ℕ, true, List, Contains}
use Rattle.std.specs.FinMap.{get}
use Rattle.plant_config.specs.declared.records.Change.{Change}
use Rattle.plant_config.specs.Plant.{PlantData}
use Rattle.crosspoint_state.specs.Crosspoints.{Crosspoints, NamesOnce}
use Rattle.tally.specs.Tally.{Origins}
use Rattle.tally.specs.Marks.{Marks}
use Rattle.tally.specs.MarkLaws.{AreSettled}
use Rattle.tally.specs.Touched.{named_by}
use Rattle.tally.specs.Moved.{has_moved}
use Rattle.tally.specs.Lost.{AreRoots}

-- Only what changes name has moved.
abbrev pub MovedOnly : Crosspoints → Crosspoints → List Change → Type 0
MovedOnly old new changes = (dest : ℕ) → (Contains (named_by changes) dest → ⊥)
    → get new dest ≡ get old dest

-- Changes are moves where each destination that they name has moved, nothing else has, and none is named twice.
pub record AreMoves (old new : Crosspoints) (changes : List Change) : Type 0 where
  pub only : MovedOnly old new changes
  pub each : (dest : ℕ) → Contains (named_by changes) dest → has_moved old new dest ≡ true
  pub once : NamesOnce changes

-- Marks are settled for what stood, and since then these changes have moved what they name, and nothing else has moved.
pub record IsMove (plant : PlantData) (old new : Crosspoints) (roots : List ℕ) (set : Origins)
    (changes : List Change) (marks : Marks) : Type 0 where
  pub rooted : AreRoots roots set
  pub settled : AreSettled plant old roots marks
  pub moved : AreMoves old new changes
