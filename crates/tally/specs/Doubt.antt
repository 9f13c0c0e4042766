-- Which devices an update affects: those that may have lost their way to the roots, and those whose output came to be seen.
use Rattle.std.specs.Prelude.{ℕ, Bool, false, not, ◌&&◌, ◌||◌, List}
use Rattle.std.specs.List.{list_any}
use Rattle.std.specs.Option.{option_map_or}
use Rattle.plant_config.specs.Plant.{PlantData}
use Rattle.crosspoint_state.specs.Crosspoints.{Crosspoints}
use Rattle.mixer_effects.specs.Buses.{output_of}
use Rattle.mixer_effects.specs.Live.{is_fed_by, live, is_origin_seen}
use Rattle.tally.specs.Moved.{lost_between}

-- whether a device fed one of the destinations that are lost, or a bus that reached one of these through devices
abbrev pub is_doubtful : PlantData → Crosspoints → List ℕ → ℕ → Bool
is_doubtful plant old lost device = list_any (is_fed_by plant old device) (live plant old lost)

-- whether the output of a device is seen
abbrev pub is_device_on : PlantData → Crosspoints → List ℕ → ℕ → Bool
is_device_on plant points roots device =
    option_map_or (is_origin_seen plant points roots) (output_of plant device) false

-- A device is affected where it is in doubt by what is lost between, or its output is seen now and wasn't.
abbrev pub is_affected : PlantData → Crosspoints → Crosspoints → List ℕ → ℕ → Bool
is_affected plant old new roots device =
    is_doubtful plant old (lost_between plant old new roots) device
    || (is_device_on plant new roots device && not (is_device_on plant old roots device))
