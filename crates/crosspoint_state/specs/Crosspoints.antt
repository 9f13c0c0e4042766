-- What each destination carries, and which changes of it are idle.
use Rattle.std.specs.Prelude.{ℕ, nat_eq, map, Bool, List, Option, refl}
use Rattle.std.specs.List.{IsDistinct}
use Rattle.std.specs.Option.{option_map, option_eq}
use Rattle.std.specs.Ordering.{nat_cmp}
use Rattle.std.specs.FinMap.{FinMap, get, code}
use Rattle.std.specs.Coded.{Coded, code_by, coded×, coded_ℕ, coded_option}
use Rattle.plant_config.specs.declared.records.Change.{Change}
use Rattle.crosspoint_state.specs.declared.spot.Spot.{Spot}

-- what each destination carries; a destination that isn't in the map is parked
abbrev pub Crosspoints : Type 0
Crosspoints = FinMap nat_cmp Spot

-- a spot is stored as the pair of its fields
abbrev pub spot_code : Coded Spot
spot_code = code_by (ℕ × Option ℕ) (coded× coded_ℕ (coded_option coded_ℕ))
    (λ spot. (spot.source, spot.tie)) (λ pair. record { source = pair.0; tie = pair.1 }) (λ _. refl)

-- crosspoints are stored as the list of their entries
abbrev pub crosspoints_code : Coded Crosspoints
crosspoints_code = code {R = nat_cmp} coded_ℕ spot_code

-- the source of a destination, none where it is parked
abbrev pub source_of : Crosspoints → ℕ → Option ℕ
source_of crosspoints dest = option_map (λ spot. spot.source) (get crosspoints dest)

-- A change is idle where its destination carries its source already, or is to be parked and is.
abbrev pub is_idle : Crosspoints → Change → Bool
is_idle crosspoints change = option_eq nat_eq (source_of crosspoints change.dest) change.source

-- No destination is named twice.
abbrev pub NamesOnce : List Change → Type 0
NamesOnce changes = IsDistinct nat_eq (map (λ change. change.dest) changes)
