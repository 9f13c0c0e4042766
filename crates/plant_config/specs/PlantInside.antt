-- The data of a plant by its parts.
use Rattle.plant_config.specs.declared.plant.Plant.TheInside.{Inside}
use Rattle.plant_config.specs.declared.parts.Parts.{Parts}
use Rattle.plant_config.specs.Plant.{PlantData}

abbrev pub data_of : Parts → PlantData
data_of parts = record {
  title = parts.service.title;
  server = parts.service.server;
  levels = parts.routing.levels;
  sources = parts.routing.sources.items;
  dest_names = parts.routing.dest_names.items;
  pools = parts.routing.pools;
  devices = parts.mixing.devices.items;
  buses = parts.mixing.buses.items;
  air = parts.mixing.air.items;
  preview = parts.mixing.preview.items;
  displays = parts.service.displays;
  panels = parts.service.panels.items;
}

abbrev pub fields_of : Inside → PlantData
fields_of plant = data_of plant.parts.value
