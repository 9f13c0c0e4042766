-- The definitions computed by hand, on lists of names and on the bench plant.
use Rattle.std.proofs.Common.{◌≡◌, [], ◌∷◌, List, ℕ, true, false, codes, replicate, Some, None, refl}
use Rattle.plant_config.specs.Plant.{PlantData}
use Rattle.plant_config.specs.Bench.{bench}
use Rattle.plant_names.specs.declared.paged.Paged.TheVariants.{Nothing, Last, More}
use Rattle.plant_names.specs.Lookup.{source_named, dest_named}
use Rattle.plant_names.specs.Pages.{names_text, page_data, page_end, source_page_data, dest_page_data}

-- one name of 8 bytes, which is padded
padded : names_text 106 0 0 1 3 (codes "CAM3" ∷ []) ≡ 106 ∷ 0 ∷ 1 ∷ 0 ∷ 3 ∷ 1 ∷ 67 ∷ 65 ∷ 77 ∷ 51 ∷ 32 ∷ 32 ∷ 32 ∷ 32 ∷ []
padded = refl

-- one of 4 bytes, which is cut, at the last level of the last matrix
cut : names_text 106 15 15 0 300 (codes "CAMERA" ∷ []) ≡ 106 ∷ 255 ∷ 0 ∷ 1 ∷ 44 ∷ 1 ∷ 67 ∷ 65 ∷ 77 ∷ 69 ∷ []
cut = refl

-- how pages of 33 names end, at each limit of a page
abbrev many : List (List ℕ)
many = replicate 33 (codes "A")

first_of_4 : page_end false 0 0 (Some many) ≡ More 32
first_of_4 = refl

last_of_4 : page_end false 0 32 (Some many) ≡ Last
last_of_4 = refl

second_of_8 : page_end false 1 16 (Some many) ≡ More 32
second_of_8 = refl

third_of_12 : page_end false 2 20 (Some many) ≡ More 30
third_of_12 = refl

one_alone : page_end true 0 0 (Some many) ≡ Last
one_alone = refl

past_the_last : page_end false 0 33 (Some many) ≡ Nothing
past_the_last = refl

no_level : page_data 106 0 5 false 0 0 None ≡ []
no_level = refl

-- a plant whose one matrix has the levels 2 and 4
abbrev two_levels : PlantData
two_levels = record bench {
  levels = record { matrix = 3; level = 2; first_source = 0; sources = 2; first_dest = 0; destinations = 2 }
      ∷ record { matrix = 3; level = 4; first_source = 2; sources = 1; first_dest = 2; destinations = 1 }
      ∷ [];
  sources = record { name = codes "CAM1"; origin = 0; pool = None } ∷ record { name = codes "CAM2"; origin = 1; pool = None } ∷ record { name = codes "CAM1"; origin = 2; pool = None } ∷ [];
  dest_names = codes "VTR" ∷ codes "MONITOR" ∷ codes "MIC" ∷ [];
}

-- one name leads to a source of each level
by_name : source_named two_levels 3 2 (codes "CAM1") ≡ Some 0
by_name = refl

by_level : source_named two_levels 3 4 (codes "CAM1") ≡ Some 2
by_level = refl

no_such_source : source_named two_levels 3 4 (codes "CAM2") ≡ None
no_such_source = refl

no_such_level : dest_named two_levels 3 0 (codes "VTR") ≡ None
no_such_level = refl

dest_by_name : dest_named two_levels 3 2 (codes "MONITOR") ≡ Some 1
dest_by_name = refl

-- a matrix's destinations have the names of its lowest level, and the level of the page is 0
lowest_names : dest_page_data two_levels 3 0 0 false ≡ 107 ∷ 48 ∷ 0 ∷ 0 ∷ 0 ∷ 2 ∷ 86 ∷ 84 ∷ 82 ∷ 32 ∷ 77 ∷ 79 ∷ 78 ∷ 73 ∷ []
lowest_names = refl

one_name : dest_page_data two_levels 3 0 1 true ≡ 107 ∷ 48 ∷ 0 ∷ 0 ∷ 1 ∷ 1 ∷ 77 ∷ 79 ∷ 78 ∷ 73 ∷ []
one_name = refl

level_of_sources : source_page_data two_levels 3 4 0 0 false ≡ 106 ∷ 52 ∷ 0 ∷ 0 ∷ 0 ∷ 1 ∷ 67 ∷ 65 ∷ 77 ∷ 49 ∷ []
level_of_sources = refl
