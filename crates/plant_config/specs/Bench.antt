-- The bench plant: one level of 32 by 32 with default names, and two panels, the second a master. And its plant file, as
-- data.
use Rattle.std.specs.Prelude.{ℕ, List, [], ◌∷◌, map, true, false, codes, None}
use Rattle.std.specs.List.{range_with_len}
use Rattle.plant_file.specs.FileData.{FileData}
use Rattle.plant_file.specs.Reading.{default_name, names_of, source_letter, destination_letter, default_server}
use Rattle.plant_config.specs.declared.records.Source.{Source}
use Rattle.plant_config.specs.Plant.{PlantData}

-- Its sources, and the names of its destinations.
unfoldable pub bench_sources : List Source
bench_sources =
    map (λ number. record {
      name = default_name source_letter number;
      origin = number;
      pool = None;
    }) (range_with_len 0 32)

unfoldable pub bench_dest_names : List (List ℕ)
bench_dest_names = map (default_name destination_letter) (range_with_len 0 32)

unfoldable pub bench : PlantData
bench = record {
  title = codes "Bench";
  server = default_server;
  levels = record {
    matrix = 0;
    level = 0;
    first_source = 0;
    sources = 32;
    first_dest = 0;
    destinations = 32;
  } ∷ [];
  sources = bench_sources;
  dest_names = bench_dest_names;
  pools = [];
  devices = [];
  buses = [];
  air = [];
  preview = [];
  displays = [];
  panels = record { device = 1; port = 9001; master = false }
      ∷ record { device = 2; port = 9002; master = true } ∷ [];
}

unfoldable pub bench_file : FileData
bench_file = record {
  title = codes "Bench";
  server = default_server;
  levels = record {
    matrix = 0;
    level = 0;
    sources = 32;
    destinations = 32;
    source_names = names_of source_letter 32 [];
    destination_names = names_of destination_letter 32 [];
  } ∷ [];
  remotes = [];
  pools = [];
  devices = [];
  buses = [];
  air = [];
  preview = [];
  displays = [];
  panels = record { device = 1; port = 9001; master = false }
      ∷ record { device = 2; port = 9002; master = true } ∷ [];
}
