-- The lists of the drill's plant, one more at a time.
use Rattle.std.proofs.Common.{◌≡◌, ℕ, ◌+◌, [], ◌∷◌, ◌++◌, map, arith}
use Rattle.std.specs.List.{range_with_len}
use Rattle.std.proofs.lemmas.List.FromFn.{map-range_with_len_more}
use Rattle.plant_file.specs.Reading.{default_name, destination_letter}
use Rattle.plant_config.specs.DrillPlant.{local_source, remote_source, local_sources, drill_panel, drill_panels}

pub local_more : (first count : ℕ) → local_sources first (count + 1) ≡ local_sources first count ++ local_source first count ∷ []
unfolding local_sources
local_more first count = map-range_with_len_more (local_source first) 0 count count (omega arith)

pub remote_more : (count : ℕ) → map remote_source (range_with_len 0 (count + 1)) ≡ map remote_source (range_with_len 0 count) ++ remote_source count ∷ []
remote_more count = map-range_with_len_more remote_source 0 count count (omega arith)

pub names_more : (count : ℕ) → map (default_name destination_letter) (range_with_len 0 (count + 1)) ≡ map (default_name destination_letter) (range_with_len 0 count) ++ default_name destination_letter count ∷ []
names_more count = map-range_with_len_more (default_name destination_letter) 0 count count (omega arith)

pub panels_more : (count : ℕ) → drill_panels (count + 1) ≡ drill_panels count ++ drill_panel count ∷ []
unfolding drill_panels
panels_more count = map-range_with_len_more drill_panel 0 count count (omega arith)
