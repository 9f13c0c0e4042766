-- What is so once some destinations were marked again that are live, one after the other.
use Rattle.std.specs.Prelude.{◌≡◌, ◌⊎◌, ℕ, ◌+◌, ◌<◌, ◌≤◌, ◌==◌, Bool, true, false, ◌&&◌, ◌||◌, List, ◌++◌, length, slice_get, Contains, Some}
use Rattle.std.specs.Option.{option_map_or}
use Rattle.std.specs.FinSet.{contains}
use Rattle.plant_config.specs.declared.records.Bus.{Bus}
use Rattle.plant_config.specs.Plant.{PlantData}
use Rattle.crosspoint_state.specs.Crosspoints.{Crosspoints}
use Rattle.mixer_effects.specs.Buses.{is_bus_on, is_on, device_at}
use Rattle.tally.specs.Tally.{Origins, is_root}
use Rattle.tally.specs.Marks.{Marks, AreMarksOf}
use Rattle.tally.specs.MarksInside.{StayTurned}
use Rattle.tally.specs.MarkLaws.{AreSound}
use Rattle.tally.specs.Lost.{AreRoots}
use Rattle.tally.specs.Weight.{weigh}

-- A root is marked, or is left to be looked at.
abbrev pub RootsAreLeft : List ℕ → List ℕ → Marks → Type 0
RootsAreLeft roots left marks = (dest : ℕ) → is_root roots dest ≡ true
    → (contains marks.live dest ≡ true) ⊎ Contains left dest

-- A bus is marked, or is left to be looked at, or its device waits.
abbrev pub IsMarkedOrLeft : List ℕ → Marks → Origins → Bus → Type 0
IsMarkedOrLeft left marks waiting bus = (contains marks.live bus.dest ≡ true)
    ⊎ (Contains left bus.dest ⊎ (contains waiting bus.device ≡ true))

-- The buses that are on of the devices that are fed are so.
abbrev pub BusesAreLeft : PlantData → Crosspoints → List ℕ → Marks → Origins → Type 0
BusesAreLeft plant points left marks waiting = (place : ℕ) (bus : Bus)
    → slice_get plant.buses place ≡ Some bus → is_bus_on plant points bus ≡ true
    → contains marks.fed bus.device ≡ true → IsMarkedOrLeft left marks waiting bus

-- Nothing is marked that isn't live, and what is live and isn't marked is behind one of the destinations that are left to be
-- looked at, or behind a device that waits.
pub record AreLighting (plant : PlantData) (points : Crosspoints) (roots left : List ℕ)
    (marks : Marks) (waiting : Origins) : Type 0 where
  pub kept : AreMarksOf plant points marks
  pub sound : AreSound plant points roots marks
  pub rooted : RootsAreLeft roots left marks
  pub buses : BusesAreLeft plant points left marks waiting

-- whether a destination is a root, or a bus that is on of a device that is fed
abbrev pub is_reached : PlantData → Crosspoints → Origins → Marks → ℕ → Bool
is_reached plant points set marks dest = contains set dest
    || (is_on plant points dest
    && option_map_or (contains marks.fed) (device_at plant dest) false)

-- One destination is marked more, if it wasn't.
abbrev pub MarksOne : Marks → Marks → ℕ → Type 0
MarksOne old new dest =
    (other : ℕ) → contains new.live other ≡ ((other == dest) || contains old.live other)

-- No device that was fed isn't any more, and devices of the plant wait. What waits more weighs no more than what is fed more.
pub record AreFedMore (plant : PlantData) (fed new_fed waiting new_waiting : Origins)
    : Type 0 where
  pub more : (device : ℕ) → contains fed device ≡ true → contains new_fed device ≡ true
  pub below : (device : ℕ) → contains new_waiting device ≡ true
      → (contains waiting device ≡ true) ⊎ (device < length plant.devices)
  pub within : (device : ℕ) → contains new_fed device ≡ true
      → (contains fed device ≡ true) ⊎ (device < length plant.devices)
  pub work : (weight : ℕ → ℕ)
      → weigh weight (contains new_waiting) + weigh weight (contains fed)
      ≤ weigh weight (contains waiting) + weigh weight (contains new_fed)

-- Each device that is fed since waits, and who waited does.
pub record WaitOnceFed (fed new_fed waiting new_waiting : Origins) : Type 0 where
  pub wait : (device : ℕ) → contains waiting device ≡ true
      → contains new_waiting device ≡ true
  pub news : (device : ℕ) → contains new_fed device ≡ true
      → (contains fed device ≡ true) ⊎ (contains new_waiting device ≡ true)

-- Marks go on as they were, and these destinations need no look more.
abbrev pub KeepLighting : PlantData → Crosspoints → Origins → List ℕ → Marks → Marks → Origins
    → Origins → Type 0
KeepLighting plant points set dests marks new_marks waiting new_waiting =
    (roots left : List ℕ) → AreRoots roots set
    → AreLighting plant points roots (dests ++ left) marks waiting
    → AreLighting plant points roots left new_marks new_waiting

-- These destinations were looked at, and marked where they are live.
pub record AreRelit (plant : PlantData) (points : Crosspoints) (set : Origins) (dests : List ℕ)
    (marks new_marks : Marks) (waiting new_waiting : Origins) : Type 0 where
  pub lighting : KeepLighting plant points set dests marks new_marks waiting new_waiting
  pub kept : AreMarksOf plant points marks → AreMarksOf plant points new_marks
  pub turned : StayTurned marks new_marks
  pub fed : AreFedMore plant marks.fed new_marks.fed waiting new_waiting
