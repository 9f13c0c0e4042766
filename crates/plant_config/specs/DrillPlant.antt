-- The plant of the drill, which has 1 to 16 panels: two matrices of 256 by 256 with default names, 64 remote sources with a
-- pool of 8 ties, and two mixers of one bus each.
use Rattle.std.specs.Prelude.{ℕ, ◌+◌, ◌*◌, ◌==◌, List, [], ◌∷◌, ◌++◌, map, codes, Some, None}
use Rattle.std.specs.List.{range_with_len}
use Rattle.plant_file.specs.Reading.{default_name, source_letter, destination_letter, default_server}
use Rattle.plant_config.specs.declared.records.Level.{Level}
use Rattle.plant_config.specs.declared.records.Source.{Source}
use Rattle.plant_config.specs.declared.records.Panel.{Panel}
use Rattle.plant_config.specs.Plant.{PlantData}

-- the most panels that it has
abbrev pub drill_panel_limit : ℕ
drill_panel_limit = 16

-- level 0 of a matrix, 0 or 1
abbrev pub drill_level : ℕ → Level
drill_level matrix = record {
  matrix = matrix;
  level = 0;
  first_source = 256 * matrix;
  sources = 256;
  first_dest = 256 * matrix;
  destinations = 256;
}

-- a local source of a level by its number there; `first` is the number of the level's first source in the whole plant
abbrev pub local_source : ℕ → ℕ → Source
local_source first number =
    record { name = default_name source_letter number; origin = first + number; pool = None }

-- The remote source of matrix 1 that stands for this source of matrix 0, from which pool 0 leads to it.
abbrev pub remote_source : ℕ → Source
remote_source origin =
    record { name = default_name source_letter (192 + origin); origin = origin; pool = Some 0 }

-- the first so many sources of a level, where these are local
unfoldable pub local_sources : ℕ → ℕ → List Source
local_sources first count = map (local_source first) (range_with_len 0 count)

-- sources 192 to 255 of matrix 1, which stand for sources 0 to 63 of matrix 0
unfoldable pub remote_sources : List Source
remote_sources = map remote_source (range_with_len 0 64)

-- the names of the destinations of one matrix
unfoldable pub matrix_dest_names : List (List ℕ)
matrix_dest_names = map (default_name destination_letter) (range_with_len 0 256)

-- Panel 0 alone is a master.
abbrev pub drill_panel : ℕ → Panel
drill_panel number =
    record { device = number + 1; port = 9000 + number; master = number == 0 }

-- the panels, so many
unfoldable pub drill_panels : ℕ → List Panel
drill_panels count = map drill_panel (range_with_len 0 count)

-- The plant, with so many panels. Its two mixers have the outputs 250 and 251 of matrix 0, and each has as its bus, which is
-- always on, the destination of that number. Destination 0 of matrix 0 is on air.
unfoldable pub drill_plant : ℕ → PlantData
drill_plant panels = record {
  title = codes "Drill";
  server = default_server;
  levels = drill_level 0 ∷ drill_level 1 ∷ [];
  sources = local_sources 0 256 ++ (local_sources 256 192 ++ remote_sources);
  dest_names = matrix_dest_names ++ matrix_dest_names;
  pools = record { from = 0; to = 1; level = 0; ties = 8; reserve = 0 } ∷ [];
  devices = record { output = 250; first_bus = 0; buses = 1 }
      ∷ record { output = 251; first_bus = 1; buses = 1 } ∷ [];
  buses = record { device = 0; dest = 250; switch = None }
      ∷ record { device = 1; dest = 251; switch = None } ∷ [];
  air = 0 ∷ [];
  preview = [];
  displays = [];
  panels = drill_panels panels;
}
