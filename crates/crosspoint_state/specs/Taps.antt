-- The tap lists: under each local source, the destinations that carry its picture.
use Rattle.std.specs.Prelude.{◌≡◌, ℕ, length, Option, refl}
use Rattle.std.specs.Option.{option_and_then}
use Rattle.std.specs.Coded.{Coded, code_by, coded×, coded_ℕ}
use Rattle.tap_lists.specs.Lists.{Lists, IsHeadOf, code}
use Rattle.plant_config.specs.Plant.{PlantData, destinations_of, sources_of}
use Rattle.plant_config.specs.Sources.{origin_of}
use Rattle.crosspoint_state.specs.Crosspoints.{Crosspoints, crosspoints_code, source_of}

-- What each destination carries, for how many destinations there is room, and the tap lists.
pub record Points : Type 0 where
  pub entries : Crosspoints
  pub room : ℕ
  pub taps : Lists

-- points are stored as the tuple of their fields
abbrev pub points_code : Coded Points
points_code = code_by (Crosspoints × (ℕ × Lists)) (coded× crosspoints_code (coded× coded_ℕ code))
    (λ points. (points.entries, (points.room, points.taps)))
    (λ tuple. record { entries = tuple.0; room = tuple.1.0; taps = tuple.1.1 }) (λ _. refl)

-- the origin of what a destination carries: the local source whose picture it has, none where it is parked
abbrev pub origin_at : PlantData → Crosspoints → ℕ → Option ℕ
origin_at plant crosspoints dest = option_and_then (origin_of plant) (source_of crosspoints dest)

-- There is a head for each source of the plant and a member for each of its destinations. A destination is under the
-- origin of what it carries, and under no other head.
pub record AreTapsOf (plant : PlantData) (crosspoints : Crosspoints) (taps : Lists) : Type 0 where
  pub heads : length taps.by_head ≡ sources_of plant
  pub members : taps.members ≡ destinations_of plant
  pub each : (dest : ℕ) → IsHeadOf taps dest (origin_at plant crosspoints dest)

-- Points are those of a plant where there is room for its destinations, and the tap lists go with what these carry.
pub record ArePointsOf (plant : PlantData) (points : Points) : Type 0 where
  pub room : points.room ≡ destinations_of plant
  pub tapped : AreTapsOf plant points.entries points.taps
