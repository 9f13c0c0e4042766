-- The definitions computed by hand, on a plant of two levels and at each limit. Of the two levels, level 0 has sources 0
-- and 1 and destinations 0 to 2, and level 1 the two sources and the one destination behind them.
use Rattle.std.proofs.Common.{◌≡◌, ◌<◌, [], ◌∷◌, codes, length, true, false, Some, None, refl, arith}
use Rattle.plant_file.specs.Reading.{default_name, source_letter, destination_letter}
use Rattle.plant_config.specs.declared.records.Level.{Level}
use Rattle.plant_config.specs.Limits.{all_levels_limit, all_sources_limit, all_destinations_limit, panel_limit}
use Rattle.plant_config.specs.Plant.{PlantData, destinations_of, sources_of}
use Rattle.plant_config.specs.IsPlant.{IsLevel, IsPanel, IsPlant, IsRemote, IsMainSource, IsSwitch}
use Rattle.plant_config.specs.Sites.{dest_at, source_at, point_of, source_number_of}
use Rattle.plant_config.specs.Sources.{origin_of, pool_of, source_name_of, dest_name_of}
use Rattle.plant_config.specs.Bench.{bench}
use Rattle.plant_config.specs.DrillPlant.{drill_plant, local_sources, remote_sources, matrix_dest_names, drill_panels}

abbrev two_levels : PlantData
two_levels = record bench {
  levels =
      record { matrix = 3; level = 0; first_source = 0; sources = 2; first_dest = 0; destinations = 3 }
      ∷ record { matrix = 3; level = 1; first_source = 2; sources = 2; first_dest = 3; destinations = 1 }
      ∷ [];
  panels = record { device = 1; port = 9001; master = true } ∷ [];
}

destinations : destinations_of two_levels ≡ 4
destinations = refl

sources : sources_of two_levels ≡ 4
sources = refl

last_dest : dest_at two_levels 3 1 0 ≡ Some 3
last_dest = refl

no_dest : dest_at two_levels 3 1 1 ≡ None
no_dest = refl

other_matrix : dest_at two_levels 0 0 0 ≡ None
other_matrix = refl

last_source : source_at two_levels 3 1 1 ≡ Some 3
last_source = refl

no_source : source_at two_levels 3 0 2 ≡ None
no_source = refl

last_place : point_of two_levels 3 ≡ Some (record { matrix = 3; level = 1; dest = 0 })
last_place = refl

no_place : point_of two_levels 4 ≡ None
no_place = refl

third_source : source_number_of two_levels 2 ≡ Some 0
third_source = refl

-- Two matrices of two sources and one destination each. Source 3, of matrix 1, stands for source 0, of matrix 0, and the
-- one pool leads there.
abbrev tied : PlantData
tied = record bench {
  levels =
      record { matrix = 0; level = 0; first_source = 0; sources = 2; first_dest = 0; destinations = 1 }
      ∷ record { matrix = 1; level = 0; first_source = 2; sources = 2; first_dest = 1; destinations = 1 }
      ∷ [];
  sources =
      record { name = codes "A"; origin = 0; pool = None }
      ∷ record { name = codes "B"; origin = 1; pool = None }
      ∷ record { name = codes "C"; origin = 2; pool = None }
      ∷ record { name = codes "A1"; origin = 0; pool = Some 0 }
      ∷ [];
  dest_names = codes "X" ∷ codes "Y" ∷ [];
  pools = record { from = 0; to = 1; level = 0; ties = 2; reserve = 1 } ∷ [];
}

remote_stands_for_0 : origin_of tied 3 ≡ Some 0
remote_stands_for_0 = refl

local_stands_for_itself : origin_of tied 2 ≡ Some 2
local_stands_for_itself = refl

remote_has_pool_0 : pool_of tied 3 ≡ Some 0
remote_has_pool_0 = refl

local_has_no_pool : pool_of tied 2 ≡ None
local_has_no_pool = refl

no_such_source : (origin_of tied 4 ≡ None) × (pool_of tied 4 ≡ None) × (source_name_of tied 4 ≡ None)
no_such_source = (refl, refl, refl)

names : (source_name_of tied 3 ≡ Some (codes "A1")) × (dest_name_of tied 1 ≡ Some (codes "Y"))
names = (refl, refl)

pool_leads : IsRemote tied 0 3 0
pool_leads = record { local = refl; tied = record { from = (refl, refl); to = (refl, refl) } }

no_origin_is_remote : ¬ IsRemote tied 3 3 0
no_origin_is_remote is = let h = is.local in cc

no_pool_leads_back : ¬ IsRemote tied 2 1 0
no_pool_leads_back is = let h = is.tied.from.0 in cc

-- Of the two levels, level 0 has the output of a mixer, and level 1 what switches a bus.
output_of_level_0 : IsMainSource two_levels 1
output_of_level_0 = refl

no_output_of_level_1 : ¬ IsMainSource two_levels 2
no_output_of_level_1 is = let h : 1 ≡ 0 = is in omega (arith, h)

switch_of_level_1 : IsSwitch two_levels 3
switch_of_level_1 = record { dest = omega arith; other = omega arith }

no_switch_of_level_0 : ¬ IsSwitch two_levels 0
no_switch_of_level_0 is = let h : 0 < 0 = is.other in omega (arith, h)

no_switch_past_all : ¬ IsSwitch two_levels 4
no_switch_past_all is = is.other

-- The plant of the drill with two panels. Its sources 448 to 511 are those from 192 on of matrix 1.
abbrev drill : PlantData
drill = drill_plant 2

drill_sources : (source_at drill 0 0 255 ≡ Some 255) × (source_at drill 1 0 192 ≡ Some 448) × (source_at drill 1 0 256 ≡ None)
unfolding drill_plant
drill_sources = (refl, refl, refl)

drill_origins : (origin_of drill 447 ≡ Some 447) × (origin_of drill 448 ≡ Some 0) × (origin_of drill 511 ≡ Some 63) × (origin_of drill 512 ≡ None)
unfolding drill_plant local_sources remote_sources
drill_origins = (refl, refl, refl, refl)

drill_pools : (pool_of drill 447 ≡ None) × (pool_of drill 448 ≡ Some 0)
unfolding drill_plant local_sources remote_sources
drill_pools = (refl, refl)

drill_names : (source_name_of drill 448 ≡ Some (default_name source_letter 192)) × (dest_name_of drill 256 ≡ Some (default_name destination_letter 0))
unfolding drill_plant local_sources remote_sources matrix_dest_names
drill_names = (refl, refl)

drill_masters : drill.panels ≡ record { device = 1; port = 9000; master = true } ∷ record { device = 2; port = 9001; master = false } ∷ []
unfolding drill_plant drill_panels
drill_masters = refl

-- A level at each of its limits, and one past each of them.
abbrev greatest : Level
greatest = record { matrix = 15; level = 15; first_source = 0; sources = 65535; first_dest = 0; destinations = 65536 }

abbrev least : Level
least = record { matrix = 0; level = 0; first_source = 0; sources = 1; first_dest = 0; destinations = 1 }

at_the_greatest : IsLevel greatest
at_the_greatest = record { matrix = omega arith; level = omega arith; destinations = record { some = omega arith; most = omega arith }; sources = record { some = omega arith; most = omega arith } }

at_the_least : IsLevel least
at_the_least = record { matrix = omega arith; level = omega arith; destinations = record { some = omega arith; most = omega arith }; sources = record { some = omega arith; most = omega arith } }

matrix_16 : ¬ IsLevel (record greatest { matrix = 16 })
matrix_16 is = let h = is.matrix in omega arith

level_16 : ¬ IsLevel (record greatest { level = 16 })
level_16 is = let h = is.level in omega arith

sources_65536 : ¬ IsLevel (record greatest { sources = 65536 })
sources_65536 is = let h = is.sources.most in omega arith

destinations_65537_of_a_level : ¬ IsLevel (record greatest { destinations = 65537 })
destinations_65537_of_a_level is = let h = is.destinations.most in omega arith

no_sources : ¬ IsLevel (record least { sources = 0 })
no_sources is = let h = is.sources.some in omega arith

no_destinations : ¬ IsLevel (record least { destinations = 0 })
no_destinations is = let h = is.destinations.some in omega arith

-- A panel at each of its limits, and one past each of them.
device_1023 : IsPanel (record { device = 1023; port = 1; master = false })
device_1023 = record { device = omega arith; port = omega arith }

device_1024 : ¬ IsPanel (record { device = 1024; port = 1; master = false })
device_1024 is = let h = is.device in omega arith

port_0 : ¬ IsPanel (record { device = 1023; port = 0; master = false })
port_0 is = let h = is.port in omega arith

-- A plant may have so many of each, and not one more.
at_most : (all_levels_limit ≡ 256) × (all_sources_limit ≡ 65536) × (all_destinations_limit ≡ 65536) × (panel_limit ≡ 64)
at_most = (refl, refl, refl, refl)

levels_257 : (plant : PlantData) → length plant.levels ≡ 257 → ¬ IsPlant plant
levels_257 plant many is = let h = is.levels in omega arith

sources_65537 : (plant : PlantData) → sources_of plant ≡ 65537 → ¬ IsPlant plant
sources_65537 plant many is = let h = is.sources in omega arith

destinations_65537 : (plant : PlantData) → destinations_of plant ≡ 65537 → ¬ IsPlant plant
destinations_65537 plant many is = let h = is.destinations in omega arith

panels_65 : (plant : PlantData) → length plant.panels ≡ 65 → ¬ IsPlant plant
panels_65 plant many is = let h = is.panels in omega arith
