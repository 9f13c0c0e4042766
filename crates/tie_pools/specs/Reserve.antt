-- How many different origins a pool may bring for a panel, as each pool keeps some of its ties for masters; and whether the
-- ties are enough for a panel's list of changes.
use Rattle.std.specs.Prelude.{ℕ, ◌-◌, nat_lt, min, max, Bool, if◌then◌else◌, List, find, length, slice_get, Option, is_none}
use Rattle.std.specs.List.{range_with_len}
use Rattle.std.specs.Option.{option_map_or}
use Rattle.plant_config.specs.declared.records.Change.{Change}
use Rattle.plant_config.specs.declared.records.Pool.{Pool}
use Rattle.plant_config.specs.Plant.{PlantData}
use Rattle.crosspoint_state.specs.Crosspoints.{Crosspoints}
use Rattle.crosspoint_state.specs.Ties.{size_of, wanted}
use Rattle.crosspoint_state.specs.Applied.{put_all}

-- how many of its ties a pool keeps for masters
abbrev pub reserve_of : PlantData → ℕ → ℕ
reserve_of plant pool =
    option_map_or (λ (found : Pool). found.reserve) (slice_get plant.pools pool) 0

-- The limit of a pool for a panel. For a master it is the pool's ties. For another panel it is the ties less the reserve,
-- or the number of different origins that the pool's destinations carry already, where that is greater. It is never above
-- the ties.
abbrev pub limit_for : PlantData → Crosspoints → Bool → ℕ → ℕ
limit_for plant crosspoints master pool =
    if master then size_of plant pool
    else min (size_of plant pool)
    (max (size_of plant pool - reserve_of plant pool) (wanted plant crosspoints pool))

-- A pool is exceeded where its destinations get more different origins by it than its limit, with all new sources put in
-- at once.
abbrev pub is_exceeded : PlantData → Crosspoints → Bool → List Change → ℕ → Bool
is_exceeded plant crosspoints master changes pool =
    nat_lt (limit_for plant crosspoints master pool)
    (wanted plant (put_all crosspoints changes) pool)

-- the lowest pool that a panel's list of changes exceeds
unfoldable pub exceeded : PlantData → Crosspoints → Bool → List Change → Option ℕ
exceeded plant crosspoints master changes =
    find (is_exceeded plant crosspoints master changes) (range_with_len 0 (length plant.pools))

-- The ties are enough for a panel's list of changes where it exceeds no pool.
abbrev pub are_enough_for : PlantData → Crosspoints → Bool → List Change → Bool
are_enough_for plant crosspoints master changes =
    is_none (exceeded plant crosspoints master changes)
