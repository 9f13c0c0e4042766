-- What moved between what stood and what stands, whoever names it.
use Rattle.std.specs.Prelude.{ℕ, nat_eq, ◌==◌, Bool, false, not, ◌&&◌, ◌||◌, List, filter}
use Rattle.std.specs.List.{list_any}
use Rattle.std.specs.Option.{option_map_or, option_eq}
use Rattle.plant_config.specs.declared.records.Bus.{Bus}
use Rattle.plant_config.specs.Plant.{PlantData}
use Rattle.crosspoint_state.specs.Crosspoints.{Crosspoints, source_of}
use Rattle.mixer_effects.specs.Live.{live}

-- whether a destination carries another source than it did, or was parked, or is
abbrev pub has_moved : Crosspoints → Crosspoints → ℕ → Bool
has_moved old new dest = not (option_eq nat_eq (source_of old dest) (source_of new dest))

-- whether the switch of a bus has moved
abbrev pub has_switch_moved : Crosspoints → Crosspoints → Bus → Bool
has_switch_moved old new bus = option_map_or (has_moved old new) bus.switch false

-- whether a destination has moved, or is a bus whose switch has
abbrev pub is_disturbed : PlantData → Crosspoints → Crosspoints → ℕ → Bool
is_disturbed plant old new dest = has_moved old new dest
    || list_any (λ bus. (bus.dest == dest) && has_switch_moved old new bus) plant.buses

-- the destinations that were live, and that moved or are buses whose switch did
abbrev pub lost_between : PlantData → Crosspoints → Crosspoints → List ℕ → List ℕ
lost_between plant old new roots = filter (is_disturbed plant old new) (live plant old roots)
