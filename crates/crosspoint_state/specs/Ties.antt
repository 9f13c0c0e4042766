-- Which ties of a pool are in use, and which one brings a source to a destination.
use Rattle.std.specs.Prelude.{◌≡◌, ◌↔◌, ℕ, ◌<◌, ◌==◌, nat_eq, Bool, not, if◌then◌else◌, List, map, find, filter_map, slice_get, Option, Some, None, MatchOption}
use Rattle.std.specs.Option.{option_map, option_map_or, option_and_then, option_or, option_eq, IsSomeAnd}
use Rattle.std.specs.List.{range_with_len, list_any}
use Rattle.std.specs.Set.{distinct_count}
use Rattle.std.specs.FinMap.{get}
use Rattle.plant_config.specs.declared.records.Pool.{Pool}
use Rattle.plant_config.specs.Plant.{PlantData, destinations_of}
use Rattle.plant_config.specs.Sources.{origin_of, pool_of}
use Rattle.crosspoint_state.specs.declared.spot.Spot.{Spot}
use Rattle.crosspoint_state.specs.Crosspoints.{Crosspoints}

-- how many ties a pool has
abbrev pub size_of : PlantData → ℕ → ℕ
size_of plant pool = option_map_or (λ (found : Pool). found.ties) (slice_get plant.pools pool) 0

-- the tie that a destination holds of a pool, and the origin that it gets by it
pub record Feed : Type 0 where
  pub tie : Option ℕ
  pub origin : ℕ

-- what a destination holds of a pool, none where its source doesn't belong to the pool
abbrev pub feed_of : PlantData → ℕ → Spot → Option Feed
feed_of plant pool spot =
    if option_eq nat_eq (pool_of plant spot.source) (Some pool)
    then option_map (λ origin. record { tie = spot.tie; origin = origin })
    (origin_of plant spot.source)
    else None

-- what the destinations of the plant hold of a pool, in the order of the destinations
unfoldable pub occupied : PlantData → Crosspoints → ℕ → List Feed
occupied plant crosspoints pool =
    filter_map (λ dest. option_and_then (feed_of plant pool) (get crosspoints dest))
    (range_with_len 0 (destinations_of plant))

-- how many different origins the destinations get by a pool
abbrev pub wanted : PlantData → Crosspoints → ℕ → ℕ
wanted plant crosspoints pool =
    distinct_count nat_eq (map (λ feed. feed.origin) (occupied plant crosspoints pool))

-- the tie of a pool that brings an origin already
abbrev pub tie_beside : PlantData → Crosspoints → ℕ → ℕ → Option ℕ
tie_beside plant crosspoints pool origin =
    option_and_then (λ (feed : Feed). feed.tie)
    (find (λ feed. feed.origin == origin) (occupied plant crosspoints pool))

-- A tie of a pool is free where no destination holds it.
abbrev pub is_free : PlantData → Crosspoints → ℕ → ℕ → Bool
is_free plant crosspoints pool tie =
    not (list_any (λ feed. option_eq nat_eq feed.tie (Some tie)) (occupied plant crosspoints pool))

-- the lowest tie of a pool that is free, none where the pool has no free one
abbrev pub lowest_free : PlantData → Crosspoints → ℕ → Option ℕ
lowest_free plant crosspoints pool =
    find (is_free plant crosspoints pool) (range_with_len 0 (size_of plant pool))

-- The tie that brings a source to a destination: none where the source is local, else the tie of its pool that brings
-- its origin already, or else the lowest free one.
unfoldable pub chosen_tie : PlantData → Crosspoints → ℕ → Option ℕ
chosen_tie plant crosspoints source =
    option_and_then
    (λ pool. option_or
    (option_and_then (tie_beside plant crosspoints pool) (origin_of plant source))
    (lowest_free plant crosspoints pool))
    (pool_of plant source)

-- A destination of the plant carries this.
pub record Carries (plant : PlantData) (crosspoints : Crosspoints) (dest : ℕ) (spot : Spot)
    : Type 0 where
  pub inside : dest < destinations_of plant
  pub carried : get crosspoints dest ≡ Some spot

-- There is a tie exactly where the source is remote, and it is one that the source's pool has.
abbrev pub HasItsTie : PlantData → Spot → Type 0
HasItsTie plant spot = MatchOption (pool_of plant spot.source) (spot.tie ≡ None)
    (λ pool. IsSomeAnd spot.tie (λ tie. tie < size_of plant pool))

-- Two sources of one pool have the same tie exactly where they stand for the same origin. So no tie carries two sources.
abbrev pub ShareByOrigin : PlantData → Spot → Spot → Type 0
ShareByOrigin plant one other = (pool : ℕ) → pool_of plant one.source ≡ Some pool
    → pool_of plant other.source ≡ Some pool
    → (one.tie ≡ other.tie) ↔ (origin_of plant one.source ≡ origin_of plant other.source)

-- Each destination of the plant has its tie.
abbrev pub EachHasItsTie : PlantData → Crosspoints → Type 0
EachHasItsTie plant crosspoints =
    (dest : ℕ) (spot : Spot) → Carries plant crosspoints dest spot → HasItsTie plant spot

-- The destinations of the plant share ties by their origins.
abbrev pub AllShareByOrigin : PlantData → Crosspoints → Type 0
AllShareByOrigin plant crosspoints = (first second : ℕ) (one other : Spot)
    → Carries plant crosspoints first one → Carries plant crosspoints second other
    → ShareByOrigin plant one other

-- The ties of the crosspoints are valid.
pub record HaveValidTies (plant : PlantData) (crosspoints : Crosspoints) : Type 0 where
  pub tied : EachHasItsTie plant crosspoints
  pub shared : AllShareByOrigin plant crosspoints
