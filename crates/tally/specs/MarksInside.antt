-- How marks change, one destination at a time.
use Rattle.std.specs.Prelude.{◌≡◌, ℕ, ◌<◌, nat_eq, ◌==◌, Bool, false, ◌||◌, length, Option, Some}
use Rattle.std.specs.Option.{option_eq}
use Rattle.std.specs.FinSet.{contains}
use Rattle.tap_lists.specs.Lists.{Lists}
use Rattle.plant_config.specs.Plant.{PlantData}
use Rattle.tally.specs.Tally.{Origins}
use Rattle.tally.specs.Marks.{Marks, is_lit, are_unlike, AreTurned}

-- A number is a member now where it wasn't, and isn't where it was. Every other number is as it was.
abbrev pub Toggles : Origins → Origins → ℕ → Type 0
Toggles old new number =
    (n : ℕ) → contains new n ≡ are_unlike (n == number) (contains old n)

-- What came to be lit or went dark was turned.
abbrev pub Turns : Lists → Lists → Origins → Origins → Type 0
Turns old new before after = (origin : ℕ) → contains after origin
    ≡ are_unlike (contains before origin) (are_unlike (is_lit old origin) (is_lit new origin))

-- What was turned is known from what was lit when the update began, if it was known before.
abbrev pub StayTurned : Marks → Marks → Type 0
StayTurned old new = (was_lit : ℕ → Bool) → AreTurned was_lit old → AreTurned was_lit new

-- One device is fed more, if any.
abbrev pub FeedsMore : Origins → Origins → Option ℕ → Type 0
FeedsMore old new device =
    (other : ℕ) → contains new other ≡ (contains old other || option_eq nat_eq device (Some other))

-- A device of a plant was not fed.
pub record IsFedNow (plant : PlantData) (fed : Origins) (device : ℕ) : Type 0 where
  pub below : device < length plant.devices
  pub fresh : contains fed device ≡ false
