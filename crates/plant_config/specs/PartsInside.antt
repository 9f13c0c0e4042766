-- What the groups of a plant's parts have, by the plant's data.
use Rattle.std.specs.Prelude.{◌≡◌}
use Rattle.plant_config.specs.declared.parts.Routing.{Routing}
use Rattle.plant_config.specs.declared.parts.Mixing.{Mixing}
use Rattle.plant_config.specs.declared.parts.Service.{Service}
use Rattle.plant_config.specs.Plant.{PlantData}

-- This is what a plant's routers have.
pub record HasRouting (plant : PlantData) (routing : Routing) : Type 0 where
  pub levels : routing.levels ≡ plant.levels
  pub sources : routing.sources.items ≡ plant.sources
  pub dest_names : routing.dest_names.items ≡ plant.dest_names
  pub pools : routing.pools ≡ plant.pools

-- This is what a plant's mixers have.
pub record HasMixing (plant : PlantData) (mixing : Mixing) : Type 0 where
  pub devices : mixing.devices.items ≡ plant.devices
  pub buses : mixing.buses.items ≡ plant.buses
  pub air : mixing.air.items ≡ plant.air
  pub preview : mixing.preview.items ≡ plant.preview

-- So a plant is served.
pub record HasService (plant : PlantData) (service : Service) : Type 0 where
  pub title : service.title ≡ plant.title
  pub server : service.server ≡ plant.server
  pub displays : service.displays ≡ plant.displays
  pub panels : service.panels.items ≡ plant.panels
