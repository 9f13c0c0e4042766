-- What a list of changes makes of the crosspoints, and whether the plant has the ties for it.
use Rattle.std.specs.Prelude.{ℕ, nat_le, Bool, not, List, [], ◌∷◌, filter, find, length, Option, Some, None}
use Rattle.std.specs.List.{range_with_len, list_all}
use Rattle.std.specs.Option.{option_map}
use Rattle.std.specs.FinMap.{insert, remove}
use Rattle.number_tables.specs.Table.{put}
use Rattle.plant_config.specs.declared.records.Change.{Change}
use Rattle.plant_config.specs.Plant.{PlantData}
use Rattle.crosspoint_state.specs.declared.spot.Spot.{Spot}
use Rattle.crosspoint_state.specs.Crosspoints.{Crosspoints, is_idle}
use Rattle.crosspoint_state.specs.Ties.{size_of, wanted, chosen_tie}

-- the destinations of these changes carry nothing
abbrev pub released : Crosspoints → List Change → Crosspoints
released crosspoints [] = crosspoints
released crosspoints (change ∷ changes) = released (remove crosspoints change.dest) changes

-- a released destination is given its source with the tie that is chosen now, if it isn't to stay parked
abbrev pub given : PlantData → Crosspoints → ℕ → Option ℕ → Crosspoints
given plant crosspoints dest None = crosspoints
given plant crosspoints dest (Some source) =
    insert crosspoints dest
    (record { source = source; tie = chosen_tie plant crosspoints source })

-- released destinations are given their sources in the order of the list
abbrev pub all_given : PlantData → Crosspoints → List Change → Crosspoints
all_given plant crosspoints [] = crosspoints
all_given plant crosspoints (change ∷ changes) =
    all_given plant (given plant crosspoints change.dest change.source) changes

-- The crosspoints after a list of changes, which are made as one: an idle change does nothing, the destinations of all
-- others are released, and then each of these is given its source.
abbrev pub applied : PlantData → Crosspoints → List Change → Crosspoints
applied plant crosspoints changes =
    let busy = filter (λ change. not (is_idle crosspoints change)) changes in
    all_given plant (released crosspoints busy) busy

-- a source by no tie, or nothing
abbrev pub untied : Option ℕ → Option Spot
untied source = option_map (λ source. record { source = source; tie = None }) source

-- the crosspoints with all new sources put in at once, by whatever ties
abbrev pub put_all : Crosspoints → List Change → Crosspoints
put_all crosspoints [] = crosspoints
put_all crosspoints (change ∷ changes) =
    put_all (put crosspoints change.dest (untied change.source)) changes

-- A pool is enough where its destinations get no more different origins by it than it has ties.
abbrev pub is_enough : PlantData → Crosspoints → ℕ → Bool
is_enough plant crosspoints pool = nat_le (wanted plant crosspoints pool) (size_of plant pool)

-- The ties are enough for a list of changes where each pool is, with all new sources put in at once.
unfoldable pub are_enough : PlantData → Crosspoints → List Change → Bool
are_enough plant crosspoints changes = list_all (is_enough plant (put_all crosspoints changes))
    (range_with_len 0 (length plant.pools))

-- the lowest pool that isn't enough for a list of changes
unfoldable pub exhausted : PlantData → Crosspoints → List Change → Option ℕ
exhausted plant crosspoints changes =
    find (λ pool. not (is_enough plant (put_all crosspoints changes) pool))
    (range_with_len 0 (length plant.pools))
