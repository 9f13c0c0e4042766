-- What a plant hasn't is of no level and has no number.
use Rattle.std.proofs.Common.{◌≡◌, ℕ, ◌≤◌, false, Option, Some, None, refl, ap, arith}
use Rattle.std.specs.Option.{option_map}
use Rattle.plant_config.specs.IsPlant.{IsPlant}
use Rattle.plant_config.specs.Plant.{PlantData, Numbering, dest_numbers, source_numbers, destinations_of, sources_of, total}
use Rattle.plant_config.specs.Sites.{Site, site_of, point_of, source_number_of}
use Rattle.plant_config.specs.declared.records.Point.{Point}
use Rattle.plant_config.proofs.SiteLemmas.{AreOf, dests_are, sources_are, site_of-number_at, number_at-below}
use Rattle.plant_core.specs.StateFault.{is_of_level, has_short_number, has_short_source_number}

no_site_by : (numbers : Numbering) (plant : PlantData) → AreOf numbers plant → (found : ℕ) → total numbers plant ≤ found → (site : Option Site) → site_of numbers plant found ≡ site → site ≡ None
no_site_by numbers plant are found above None is = refl
no_site_by numbers plant are found above (Some at) is =
    absurd (omega (arith, number_at-below numbers plant are at.matrix at.level at.number found (site_of-number_at numbers plant are found at is)))

no_site : (numbers : Numbering) (plant : PlantData) → AreOf numbers plant → (found : ℕ) → total numbers plant ≤ found → site_of numbers plant found ≡ None
no_site numbers plant are found above = no_site_by numbers plant are found above (site_of numbers plant found) refl

no_point : (plant : PlantData) (dest : ℕ) → IsPlant plant → destinations_of plant ≤ dest → point_of plant dest ≡ None
no_point plant dest is above =
    ap (option_map (λ (place : Site). let at : Point = record { matrix = place.matrix; level = place.level; dest = place.number } in at)) (no_site dest_numbers plant (dests_are plant is) dest above)

no_number : (plant : PlantData) (source : ℕ) → IsPlant plant → sources_of plant ≤ source → source_number_of plant source ≡ None
no_number plant source is above = ap (option_map (λ (place : Site). place.number)) (no_site source_numbers plant (sources_are plant is) source above)

pub no_dest_of_level : (plant : PlantData) (dest source : ℕ) → IsPlant plant → destinations_of plant ≤ dest → false ≡ is_of_level plant dest source
unfolding is_of_level
no_dest_of_level plant dest source is above = rw (no_point plant dest is above) refl

pub no_source_of_level : (plant : PlantData) (dest source : ℕ) (at : Point) → IsPlant plant → point_of plant dest ≡ Some at → sources_of plant ≤ source → false ≡ is_of_level plant dest source
unfolding is_of_level
no_source_of_level plant dest source at is placed above = rw (placed, no_number plant source is above) refl

pub no_short_dest : (plant : PlantData) (dest : ℕ) → IsPlant plant → destinations_of plant ≤ dest → false ≡ has_short_number plant dest
unfolding has_short_number
no_short_dest plant dest is above = rw (no_point plant dest is above) refl

pub no_short_source : (plant : PlantData) (source : ℕ) → IsPlant plant → sources_of plant ≤ source → false ≡ has_short_source_number plant source
unfolding has_short_source_number
no_short_source plant source is above = rw (no_number plant source is above) refl
