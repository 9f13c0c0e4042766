-- What stands at the destination of a bus.
use Rattle.std.proofs.Common.{◌≡◌, ℕ, ◌==◌, slice_get, Some, refl, sym, ap, ◌∙◌, eqb-true, eq-eqb}
use Rattle.std.specs.Option.{option_map}
use Rattle.plant_config.specs.declared.records.Bus.{Bus}
use Rattle.plant_config.specs.Plant.{PlantData}
use Rattle.plant_config.specs.IsPlant.{IsPlant}
use Rattle.plant_config.specs.Origins.{bus_dest_of}
use Rattle.plant_config.proofs.OriginLemmas.{buses_differ}
use Rattle.mixer_effects.specs.Buses.{bus_at}
use Rattle.tally.proofs.Searches.{any_stands, found_stands, any_found}

-- a bus of a plant is what is found at its destination
pub bus_found : (plant : PlantData) (place : ℕ) (bus : Bus) → IsPlant plant → slice_get plant.buses place ≡ Some bus → bus_at plant bus.dest ≡ Some bus
bus_found plant place bus is stands =
    let first = any_found (λ (other : Bus). other.dest == bus.dest) plant.buses (any_stands (λ (other : Bus). other.dest == bus.dest) plant.buses place bus stands (eq-eqb bus.dest bus.dest refl)) in
    let at = found_stands (λ (other : Bus). other.dest == bus.dest) plant.buses first.0 first.1 in
    let here : bus_dest_of plant place ≡ Some bus.dest = ap (option_map (λ (found : Bus). found.dest)) stands in
    let there : bus_dest_of plant at.0 ≡ Some bus.dest =
    ap (option_map (λ (found : Bus). found.dest)) at.1 ∙ ap Some (eqb-true first.0.dest bus.dest at.2) in
    let same : at.0 ≡ place = buses_differ plant is at.0 place bus.dest there here in
    first.1 ∙ sym at.1 ∙ ap (slice_get plant.buses) same ∙ stands
