-- A tally that is kept up to date: what it is, and what an update does.
use Rattle.std.specs.Prelude.{◌≡◌, ◌≢◌, ◌↔◌, ℕ, ◌<◌, ◌≤◌, true, List, Contains, refl}
use Rattle.std.specs.List.{AllPairs}
use Rattle.std.specs.FinSet.{empty, contains, code as set_code}
use Rattle.std.specs.Coded.{Coded, code_by, coded×, coded_ℕ, coded_list}
use Rattle.plant_config.specs.declared.records.Change.{Change}
use Rattle.plant_config.specs.Plant.{PlantData, sources_of}
use Rattle.plant_config.specs.IsPlant.{IsPlant}
use Rattle.crosspoint_state.specs.Crosspoints.{Crosspoints}
use Rattle.mixer_effects.specs.Live.{is_origin_seen}
use Rattle.tally.specs.Tally.{Origins}
use Rattle.tally.specs.Marks.{Marks, marks_code}
use Rattle.tally.specs.MarkLaws.{AreSettled}
use Rattle.tally.specs.Lost.{AreRoots}
use Rattle.tally.specs.Update.{AreMoves}

-- The marks, the roots, two sets of devices for the time of an update, and the local sources that the last update turned on
-- or off, for so many of which there is room.
pub record Kept : Type 0 where
  pub marks : Marks
  pub roots : Origins
  pub waiting : Origins
  pub doubted : Origins
  pub flipped : List ℕ
  pub room : ℕ

-- a kept tally is stored as the tuple of its fields
abbrev pub kept_code : Coded Kept
kept_code =
    code_by ((Marks × Origins) × ((Origins × Origins) × (List ℕ × ℕ)))
    (coded× (coded× marks_code (set_code coded_ℕ))
    (coded× (coded× (set_code coded_ℕ) (set_code coded_ℕ)) (coded× (coded_list coded_ℕ) coded_ℕ)))
    (λ kept. (
      (kept.marks, kept.roots),
      ((kept.waiting, kept.doubted), (kept.flipped, kept.room)),
    ))
    (λ tuple. record {
      marks = tuple.0.0;
      roots = tuple.0.1;
      waiting = tuple.1.0.0;
      doubted = tuple.1.0.1;
      flipped = tuple.1.1.0;
      room = tuple.1.1.1;
    }) (λ _. refl)

-- A tally is kept for a plant, its crosspoints and roots: its marks are settled, and no update is under way.
pub record IsKeptFor (plant : PlantData) (points : Crosspoints) (roots : List ℕ) (kept : Kept)
    : Type 0 where
  pub is_plant : IsPlant plant
  pub rooted : AreRoots roots kept.roots
  pub settled : AreSettled plant points roots kept.marks
  pub still : kept.marks.turned ≡ empty
  pub idle : kept.waiting ≡ empty
  pub sure : kept.doubted ≡ empty
  pub many : sources_of plant ≤ kept.room

-- A tally was kept for what stood, and since then these changes have moved what they name, and nothing else has moved.
pub record IsUpdate (plant : PlantData) (old new : Crosspoints) (roots : List ℕ)
    (changes : List Change) (kept : Kept) : Type 0 where
  pub before : IsKeptFor plant old roots kept
  pub moved : AreMoves old new changes

-- These are the local sources that are seen now and weren't, or were seen and aren't, each once, in the order of their
-- numbers.
pub record AreFlipped (plant : PlantData) (old new : Crosspoints) (roots : List ℕ)
    (origins : List ℕ) : Type 0 where
  pub each : (origin : ℕ) → Contains origins origin
      ↔ (is_origin_seen plant old roots origin ≢ is_origin_seen plant new roots origin)
  pub once : AllPairs (λ first second. first < second) origins

-- These are the members of a set, each once, in their order.
pub record AreMembers (set : Origins) (numbers : List ℕ) : Type 0 where
  pub each : (number : ℕ) → Contains numbers number ↔ (contains set number ≡ true)
  pub once : AllPairs (λ first second. first < second) numbers
