-- When marks say what is live and what is seen.
use Rattle.std.specs.Prelude.{◌≡◌, ℕ, true, List, slice_get, Some}
use Rattle.std.specs.FinSet.{contains}
use Rattle.plant_config.specs.declared.records.Bus.{Bus}
use Rattle.plant_config.specs.Plant.{PlantData}
use Rattle.crosspoint_state.specs.Crosspoints.{Crosspoints}
use Rattle.mixer_effects.specs.Buses.{is_bus_on}
use Rattle.mixer_effects.specs.Live.{is_live, is_origin_seen}
use Rattle.mixer_effects.specs.Laws.{HasRoots}
use Rattle.tally.specs.Marks.{Marks, is_lit, AreMarksOf}

-- What is marked is live.
abbrev pub AreSound : PlantData → Crosspoints → List ℕ → Marks → Type 0
AreSound plant points roots marks = (dest : ℕ) → contains marks.live dest ≡ true
    → is_live plant points roots dest ≡ true

-- The buses that are on of a device that is fed are marked.
abbrev pub HaveBuses : PlantData → Crosspoints → Marks → Type 0
HaveBuses plant points marks = (place : ℕ) (bus : Bus)
    → slice_get plant.buses place ≡ Some bus → is_bus_on plant points bus ≡ true
    → contains marks.fed bus.device ≡ true → contains marks.live bus.dest ≡ true

-- Marks that are settled: nothing is marked that isn't live, the roots are, and the buses behind all that is.
pub record AreSettled (plant : PlantData) (points : Crosspoints) (roots : List ℕ) (marks : Marks)
    : Type 0 where
  pub kept : AreMarksOf plant points marks
  pub sound : AreSound plant points roots marks
  pub rooted : HasRoots roots (contains marks.live)
  pub buses : HaveBuses plant points marks

-- Marks say which destinations are live, and which local sources are seen.
pub record SayWhatIsLive (plant : PlantData) (points : Crosspoints) (roots : List ℕ)
    (marks : Marks) : Type 0 where
  pub live : (dest : ℕ) → contains marks.live dest ≡ is_live plant points roots dest
  pub seen : (origin : ℕ) → is_lit marks.lit origin ≡ is_origin_seen plant points roots origin
