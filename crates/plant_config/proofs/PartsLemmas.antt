-- A plant by the groups of its parts.
use Rattle.std.proofs.Common.{◌≡◌, refl, sym, subst}
use Rattle.plant_config.specs.declared.parts.Parts.{Parts}
use Rattle.plant_config.specs.Plant.{PlantData}
use Rattle.plant_config.specs.PartsInside.{HasRouting, HasMixing, HasService}
use Rattle.plant_config.specs.PlantInside.{data_of}

-- groups that have what a plant has make that plant
pub data_of-parts : (plant : PlantData) (parts : Parts) → HasRouting plant parts.routing → HasMixing plant parts.mixing → HasService plant parts.service → data_of parts ≡ plant
data_of-parts plant parts routing mixing service =
    λ i. record {
      title = service.title i;
      server = service.server i;
      levels = routing.levels i;
      sources = routing.sources i;
      dest_names = routing.dest_names i;
      pools = routing.pools i;
      devices = mixing.devices i;
      buses = mixing.buses i;
      air = mixing.air i;
      preview = mixing.preview i;
      displays = service.displays i;
      panels = service.panels i;
    }

-- each group of a plant's own parts has what the plant has
pub own_routing : (parts own : Parts) → parts ≡ own → HasRouting (data_of own) parts.routing
own_routing parts own same = subst (λ (it : Parts). HasRouting (data_of own) it.routing) (sym same) (record { levels = refl; sources = refl; dest_names = refl; pools = refl })

pub own_mixing : (parts own : Parts) → parts ≡ own → HasMixing (data_of own) parts.mixing
own_mixing parts own same = subst (λ (it : Parts). HasMixing (data_of own) it.mixing) (sym same) (record { devices = refl; buses = refl; air = refl; preview = refl })

pub own_service : (parts own : Parts) → parts ≡ own → HasService (data_of own) parts.service
own_service parts own same = subst (λ (it : Parts). HasService (data_of own) it.service) (sym same) (record { title = refl; server = refl; displays = refl; panels = refl })
