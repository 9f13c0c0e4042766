-- What the tests of a text's numbers say: that a source is of a destination's level, and that numbers are short.
use Rattle.std.proofs.Common.{◌≡◌, ℕ, ◌<◌, nat_eq, true, false, Option, Some, None, IfSome, refl, subst}
use Rattle.std.proofs.lemmas.Bool.{false≢true, ltb-true}
use Rattle.std.specs.Option.{option_map, option_map_or, option_and_then, option_eq}
use Rattle.plant_config.specs.IsPlant.{IsPlant}
use Rattle.plant_config.specs.Plant.{PlantData, dest_numbers, destinations_of}
use Rattle.plant_config.specs.Sites.{Site, site_of, dest_at, source_at, point_of, source_number_of}
use Rattle.plant_config.specs.declared.records.Point.{Point}
use Rattle.plant_config.proofs.SiteLemmas.{dests_are, site_of-number_at, dest_at-below}
use Rattle.crosspoint_state.proofs.TieLemmas.{same_option}
use Rattle.plant_core.specs.State.{IsCrosspoint}
use Rattle.plant_core.specs.Short.{IsShortDest, IsShortSource}
use Rattle.plant_core.specs.Wide.{is_short_dest, is_short_source}
use Rattle.plant_core.specs.StateFault.{is_of_level, has_short_number, has_short_source_number}

-- the place of a destination
point_by : (plant : PlantData) (dest : ℕ) (at : Point) (site : Option Site) → IsPlant plant → site_of dest_numbers plant dest ≡ site →
    option_map (λ (place : Site). let at : Point = record { matrix = place.matrix; level = place.level; dest = place.number } in at) site ≡ Some at → dest_at plant at.matrix at.level at.dest ≡ Some dest
point_by plant dest at None is placed same = let no : ⊥ = (cc) in absurd no
point_by plant dest at (Some site) is placed same =
    let P : Option Point → Type 0 = λ found. IfSome found (λ place. dest_at plant place.matrix place.level place.dest ≡ Some dest) in
    subst P same (site_of-number_at dest_numbers plant (dests_are plant is) dest site placed)

pub point_of-dest_at : (plant : PlantData) (dest : ℕ) (at : Point) → IsPlant plant → point_of plant dest ≡ Some at → dest_at plant at.matrix at.level at.dest ≡ Some dest
point_of-dest_at plant dest at is placed = point_by plant dest at (site_of dest_numbers plant dest) is refl placed

level_by : (plant : PlantData) (dest source : ℕ) (at : Option Point) (number : Option ℕ) → IsPlant plant → point_of plant dest ≡ at →
    option_map_or (λ (at : Point). option_eq nat_eq (option_and_then (source_at plant at.matrix at.level) number) (Some source)) at false ≡ true → IsCrosspoint plant dest source
level_by plant dest source None number is placed of = absurd (false≢true of)
level_by plant dest source (Some at) None is placed of = absurd (false≢true of)
level_by plant dest source (Some at) (Some number) is placed of = record {
  matrix = at.matrix;
  level = at.level;
  dest_number = at.dest;
  source_number = number;
  dest_is = point_of-dest_at plant dest at is placed;
  source_is = same_option (source_at plant at.matrix at.level number) (Some source) of;
}

-- A source of a destination's level may stand there.
pub level_crosspoint : (plant : PlantData) (dest source : ℕ) → IsPlant plant → is_of_level plant dest source ≡ true → IsCrosspoint plant dest source
unfolding is_of_level
level_crosspoint plant dest source is of = level_by plant dest source (point_of plant dest) (source_number_of plant source) is refl of

short_by : (at : Option Point) → option_map_or (λ (at : Point). is_short_dest at.dest) at false ≡ true → IfSome at (λ (at : Point). at.dest < 1024)
short_by None is = absurd (false≢true is)
short_by (Some at) is = ltb-true at.dest 1024 is

-- A destination's number, and a source's, is short.
pub short_dest : (plant : PlantData) (dest : ℕ) → has_short_number plant dest ≡ true → IsShortDest plant dest
unfolding has_short_number
short_dest plant dest is = short_by (point_of plant dest) is

short_source_by : (number : Option ℕ) → option_map_or (λ (number : ℕ). is_short_source (Some number)) number false ≡ true → IfSome number (λ number. number < 1023)
short_source_by None is = absurd (false≢true is)
short_source_by (Some number) is = ltb-true number 1023 is

pub short_source : (plant : PlantData) (source : ℕ) → has_short_source_number plant source ≡ true → IsShortSource plant (Some source)
unfolding has_short_source_number
short_source plant source is = short_source_by (source_number_of plant source) is

below_by : (plant : PlantData) (dest : ℕ) (point : Option Point) → IsPlant plant → point_of plant dest ≡ point → option_map_or (λ (at : Point). is_short_dest at.dest) point false ≡ true → dest < destinations_of plant
below_by plant dest None is placed holds = absurd (cc)
below_by plant dest (Some at) is placed holds = dest_at-below plant at.matrix at.level at.dest dest is (point_of-dest_at plant dest at is placed)

-- what has a short number is of the plant
pub short_dest-below : (plant : PlantData) (dest : ℕ) → IsPlant plant → has_short_number plant dest ≡ true → dest < destinations_of plant
unfolding has_short_number
short_dest-below plant dest is holds = below_by plant dest (point_of plant dest) is refl holds
