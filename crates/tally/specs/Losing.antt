-- How what may have lost its way to the roots goes dark: a destination that goes dark puts the device that fed it in doubt.
use Rattle.std.specs.Prelude.{◌≡◌, ◌⊎◌, ℕ, Bool, true, false, ◌||◌, List, Contains, Option, Some}
use Rattle.std.specs.Option.{option_and_then}
use Rattle.std.specs.FinSet.{contains}
use Rattle.plant_config.specs.Plant.{PlantData}
use Rattle.crosspoint_state.specs.Crosspoints.{Crosspoints}
use Rattle.crosspoint_state.specs.Taps.{origin_at}
use Rattle.mixer_effects.specs.Buses.{fed_device, device_at}
use Rattle.mixer_effects.specs.Live.{is_live}
use Rattle.tally.specs.Tally.{Origins, is_root}
use Rattle.tally.specs.Marks.{Marks, AreMarksOf}
use Rattle.tally.specs.MarkLaws.{AreSound}

-- A device is in doubt that waits to be gone through, or that was gone through.
abbrev pub in_doubt : Origins → Origins → ℕ → Bool
in_doubt waiting doubted device = contains waiting device || contains doubted device

-- the device that feeds a destination
abbrev pub feeder_of : PlantData → Crosspoints → ℕ → Option ℕ
feeder_of plant points dest = option_and_then (fed_device plant) (origin_at plant points dest)

-- A destination that was live is dark.
pub record WentDark (plant : PlantData) (old : Crosspoints) (roots : List ℕ) (marks : Marks)
    (dest : ℕ) : Type 0 where
  pub lived : is_live plant old roots dest ≡ true
  pub dark : contains marks.live dest ≡ false

-- A destination is a bus of a device that was gone through, and no root.
pub record IsBehindDoubt (plant : PlantData) (roots : List ℕ) (doubted : Origins) (dest : ℕ)
    : Type 0 where
  pub device : ℕ
  pub bus : device_at plant dest ≡ Some device
  pub doubted_one : contains doubted device ≡ true
  pub no_root : is_root roots dest ≡ false

-- Why a destination may go dark: it is one of these that moved, or whose switch did, or it is behind a device in doubt.
abbrev pub MayGoDark : PlantData → List ℕ → List ℕ → Origins → ℕ → Type 0
MayGoDark plant roots touched doubted dest =
    Contains touched dest ⊎ IsBehindDoubt plant roots doubted dest

-- Whoever went dark had a cause, and put the device that fed it in doubt. Nothing is marked that wasn't live.
pub record AreLosing (plant : PlantData) (old : Crosspoints) (roots touched : List ℕ)
    (marks : Marks) (waiting doubted : Origins) : Type 0 where
  pub kept : AreMarksOf plant old marks
  pub sound : AreSound plant old roots marks
  pub followed : (dest device : ℕ) → WentDark plant old roots marks dest
      → feeder_of plant old dest ≡ Some device → in_doubt waiting doubted device ≡ true
  pub caused : (dest : ℕ) → WentDark plant old roots marks dest
      → MayGoDark plant roots touched doubted dest

-- With one destination more that has a cause, marks are losing as they were.
abbrev pub KeepLosing : PlantData → ℕ → Marks → Marks → Origins → Origins → Origins → Type 0
KeepLosing plant dest marks new_marks waiting new_waiting doubted =
    (old : Crosspoints) (roots touched : List ℕ)
    → AreLosing plant old roots touched marks waiting doubted
    → MayGoDark plant roots touched doubted dest
    → AreLosing plant old roots touched new_marks new_waiting doubted

-- No destination is marked that wasn't.
abbrev pub MarksNoMore : Marks → Marks → Type 0
MarksNoMore old new = (dest : ℕ) → contains new.live dest ≡ true → contains old.live dest ≡ true
