-- How much an update may read.
use Rattle.std.specs.Prelude.{ℕ, ◌+◌, ◌*◌, ◌≤◌, Bool, ◌&&◌, List, length}
use Rattle.std.specs.List.{list_any, range_with_len}
use Rattle.plant_config.specs.Plant.{PlantData, destinations_of}
use Rattle.crosspoint_state.specs.Crosspoints.{Crosspoints}
use Rattle.mixer_effects.specs.Buses.{buses_at}
use Rattle.mixer_effects.specs.Live.{is_fed_by}
use Rattle.tally.specs.Touched.{with_switched}
use Rattle.tally.specs.Moved.{has_moved}
use Rattle.tally.specs.Doubt.{is_affected}
use Rattle.tally.specs.Weight.{weights, weigh, device_weight}

-- how many devices are affected
abbrev pub affected_devices : PlantData → Crosspoints → Crosspoints → List ℕ → ℕ
affected_devices plant old new roots = weigh (λ _. 1) (is_affected plant old new roots)

-- how many buses these have
abbrev pub affected_buses : PlantData → Crosspoints → Crosspoints → List ℕ → ℕ
affected_buses plant old new roots =
    weigh (λ device. length (buses_at plant device)) (is_affected plant old new roots)

-- whether a destination carries what one of these puts out
abbrev pub is_fed_by_affected : PlantData → Crosspoints → Crosspoints → List ℕ → ℕ → Bool
is_fed_by_affected plant old new roots dest =
    list_any (λ device. is_affected plant old new roots device && is_fed_by plant new device dest)
    (range_with_len 0 (length plant.devices))

-- how many destinations do
abbrev pub fed_by_affected : PlantData → Crosspoints → Crosspoints → List ℕ → ℕ
fed_by_affected plant old new roots =
    weights (λ _. 1) (is_fed_by_affected plant old new roots) (destinations_of plant)

-- how many destinations moved, and how many buses these switch
abbrev pub moved_and_switched : PlantData → Crosspoints → Crosspoints → ℕ
moved_and_switched plant old new =
    weights (λ dest. length (with_switched plant dest)) (has_moved old new) (destinations_of plant)

-- The most that an update reads: 15 times the affected devices and their buses, and 9 times what moved and what this
-- switches.
abbrev pub read_bound : PlantData → Crosspoints → Crosspoints → List ℕ → ℕ
read_bound plant old new roots =
    15 * weigh (device_weight plant) (is_affected plant old new roots)
    + 9 * moved_and_switched plant old new

-- That is at most 16 for each affected device, for each bus of one, for each destination that carries what one puts out, for
-- each destination that moved and each bus that it switches, and 16 more.
abbrev pub ReadsAreFew : PlantData → Crosspoints → Crosspoints → List ℕ → Type 0
ReadsAreFew plant old new roots = read_bound plant old new roots
    ≤ 16 * (affected_devices plant old new roots + affected_buses plant old new roots
    + fed_by_affected plant old new roots + moved_and_switched plant old new + 1)
