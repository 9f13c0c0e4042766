-- What is so once some destinations went dark, one after the other, and which devices wait since.
use Rattle.std.specs.Prelude.{◌≡◌, ◌⊎◌, ℕ, ◌<◌, Bool, true, false, not, List, filter, length, Contains, Some}
use Rattle.std.specs.FinSet.{empty, contains}
use Rattle.plant_config.specs.Plant.{PlantData}
use Rattle.crosspoint_state.specs.Crosspoints.{Crosspoints}
use Rattle.mixer_effects.specs.Buses.{buses_at}
use Rattle.tally.specs.Tally.{Origins, is_root}
use Rattle.tally.specs.Marks.{Marks, AreMarksOf}
use Rattle.tally.specs.MarksInside.{StayTurned}
use Rattle.tally.specs.Losing.{in_doubt, feeder_of, MayGoDark, AreLosing, MarksNoMore}

-- Why a device waits: it fed one of these destinations, which was marked, and it wasn't gone through.
pub record WaitsFor (plant : PlantData) (old : Crosspoints) (dests : List ℕ) (marks : Marks)
    (doubted : Origins) (device : ℕ) : Type 0 where
  pub below : device < length plant.devices
  pub fresh : contains doubted device ≡ false
  pub dest : ℕ
  pub among : Contains dests dest
  pub marked : contains marks.live dest ≡ true
  pub fed : feeder_of plant old dest ≡ Some device

-- Whoever waits did so before, or has a reason among these destinations.
abbrev pub WaitMore : PlantData → List ℕ → Marks → Origins → Origins → Origins → Type 0
WaitMore plant dests marks waiting new_waiting doubted =
    (old : Crosspoints) → AreMarksOf plant old marks
    → (device : ℕ) → contains new_waiting device ≡ true
    → (contains waiting device ≡ true) ⊎ WaitsFor plant old dests marks doubted device

-- Each of these destinations has a cause to go dark.
abbrev pub EachMayGoDark : PlantData → List ℕ → List ℕ → Origins → List ℕ → Type 0
EachMayGoDark plant roots touched doubted dests =
    (dest : ℕ) → Contains dests dest → MayGoDark plant roots touched doubted dest

-- Marks are losing as they were, if these destinations had a cause.
abbrev pub KeepLosingAll : PlantData → List ℕ → Marks → Marks → Origins → Origins → Origins
    → Type 0
KeepLosingAll plant dests marks new_marks waiting new_waiting doubted =
    (old : Crosspoints) (roots touched : List ℕ)
    → AreLosing plant old roots touched marks waiting doubted
    → EachMayGoDark plant roots touched doubted dests
    → AreLosing plant old roots touched new_marks new_waiting doubted

-- Marks go with the crosspoints with which they went.
abbrev pub StayMarks : PlantData → Marks → Marks → Type 0
StayMarks plant marks new_marks =
    (points : Crosspoints) → AreMarksOf plant points marks → AreMarksOf plant points new_marks

-- These destinations went dark.
pub record AreLost (plant : PlantData) (dests : List ℕ) (marks new_marks : Marks)
    (waiting new_waiting doubted : Origins) : Type 0 where
  pub losing : KeepLosingAll plant dests marks new_marks waiting new_waiting doubted
  pub kept : StayMarks plant marks new_marks
  pub dark : (dest : ℕ) → Contains dests dest → contains new_marks.live dest ≡ false
  pub fewer : MarksNoMore marks new_marks
  pub turned : StayTurned marks new_marks
  pub waits : WaitMore plant dests marks waiting new_waiting doubted

-- These numbers are those of the roots.
abbrev pub AreRoots : List ℕ → Origins → Type 0
AreRoots roots set = (dest : ℕ) → contains set dest ≡ is_root roots dest

-- those of some destinations that are no roots
abbrev pub no_roots : Origins → List ℕ → List ℕ
no_roots set dests = filter (λ dest. not (contains set dest)) dests

-- The buses of the devices that were gone through are dark, but for the roots.
abbrev pub AreGoneThrough : PlantData → Origins → Marks → Origins → Type 0
AreGoneThrough plant set marks doubted = (device dest : ℕ) → contains doubted device ≡ true
    → Contains (no_roots set (buses_at plant device)) dest → contains marks.live dest ≡ false

-- a device feeds one of these destinations
pub record FeedsAmong (plant : PlantData) (old : Crosspoints) (is_among : ℕ → Bool)
    (device : ℕ) : Type 0 where
  pub dest : ℕ
  pub among : is_among dest ≡ true
  pub fed : feeder_of plant old dest ≡ Some device

-- Where a device feeds one of these destinations, its marked buses are among them, but for the roots.
abbrev pub HaveMarkedBehind : PlantData → Crosspoints → Origins → Marks → (ℕ → Bool) → Type 0
HaveMarkedBehind plant old set marks is_among = (device dest : ℕ)
    → FeedsAmong plant old is_among device
    → Contains (no_roots set (buses_at plant device)) dest
    → contains marks.live dest ≡ true → is_among dest ≡ true

-- Whoever is in doubt feeds one of these destinations, if those did that waited first.
abbrev pub ComeFrom : PlantData → Origins → Marks → Origins → Origins → Origins → Type 0
ComeFrom plant set marks waiting new_waiting doubted = (old : Crosspoints) (is_among : ℕ → Bool)
    → AreMarksOf plant old marks → HaveMarkedBehind plant old set marks is_among
    → ((device : ℕ) → contains waiting device ≡ true → FeedsAmong plant old is_among device)
    → (device : ℕ) → in_doubt new_waiting doubted device ≡ true
    → FeedsAmong plant old is_among device

-- Those that wait are devices of a plant.
abbrev pub AreDevices : PlantData → Origins → Type 0
AreDevices plant waiting =
    (device : ℕ) → contains waiting device ≡ true → device < length plant.devices

-- Marks are losing as they were, when no device had been gone through.
abbrev pub SpreadLosing : PlantData → Origins → Marks → Marks → Origins → Origins → Origins
    → Type 0
SpreadLosing plant set marks new_marks waiting new_waiting doubted =
    (old : Crosspoints) (roots touched : List ℕ) → AreRoots roots set
    → AreLosing plant old roots touched marks waiting empty
    → AreLosing plant old roots touched new_marks new_waiting doubted

-- Doubt has spread from the devices that waited first to those that were gone through.
pub record HasSpread (plant : PlantData) (set : Origins) (marks new_marks : Marks)
    (waiting new_waiting doubted : Origins) : Type 0 where
  pub losing : SpreadLosing plant set marks new_marks waiting new_waiting doubted
  pub gone : AreGoneThrough plant set new_marks doubted
  pub kept : StayMarks plant marks new_marks
  pub fewer : MarksNoMore marks new_marks
  pub turned : StayTurned marks new_marks
  pub devices : AreDevices plant new_waiting
  pub within : AreDevices plant doubted
  pub apart : (device : ℕ) → contains new_waiting device ≡ true
      → contains doubted device ≡ false
  pub come : ComeFrom plant set marks waiting new_waiting doubted
