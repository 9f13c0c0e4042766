-- How large an entry is at most.
use Rattle.std.proofs.Common.{ℕ, ◌+◌, ◌*◌, ◌≤◌, length, arith}
use Rattle.plant_config.specs.Plant.{PlantData, destinations_of}
use Rattle.plant_config.specs.IsPlant.{IsPlant}
use Rattle.plant_core.proofs.StateTextLemmas.{panels_fit}
use Rattle.plant_snapshot.specs.StandsFor.{entry_size}
use Rattle.plant_snapshot.specs.SizeInside.{most_entry}

counts_fit : (dests panels displays : ℕ) → dests ≤ 65536 → panels ≤ 64 → displays ≤ 4096
    → 8 + (16 + 10 * dests + 262400 + panels * (1 + dests) + 7 * displays) ≤ most_entry
counts_fit dests panels displays few most all = omega (arith, panels_fit panels dests most few)

pub entries_are_small : (plant : PlantData) → IsPlant plant → entry_size plant ≤ most_entry
entries_are_small plant is =
    counts_fit (destinations_of plant) (length plant.panels) (length plant.displays) is.destinations is.panels is.linked.displays.0.1
