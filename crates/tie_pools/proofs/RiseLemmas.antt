-- A pool by which no new source of a list comes doesn't rise, and what its limit is where it does.
use Rattle.std.proofs.Common.{◌≡◌, ◌≢◌, ◌⊎◌, ℕ, ◌<◌, ◌≤◌, nat_eq, Bool, List, [], ◌∷◌, length, Option, Some, None, inl, inr, refl, sym, ap, subst, ◌∙◌, arith}
use Rattle.std.specs.Prelude.{min, max}
use Rattle.std.proofs.Math.Nat.{le-max_right, le-min, min-eq_left}
use Rattle.std.proofs.lemmas.Bool.{cases_eq, cases_lt}
use Rattle.std.proofs.lemmas.List.Elements.{All-tail}
use Rattle.std.specs.Option.{option_map}
use Rattle.plant_config.specs.declared.records.Change.{Change}
use Rattle.plant_config.specs.Plant.{PlantData, destinations_of}
use Rattle.plant_config.specs.IsPlant.{IsPlant}
use Rattle.crosspoint_state.specs.Crosspoints.{Crosspoints, source_of}
use Rattle.crosspoint_state.specs.Ties.{wanted}
use Rattle.crosspoint_state.specs.Applied.{untied, put_all}
use Rattle.crosspoint_state.specs.Laws.{AreInside}
use Rattle.crosspoint_state.proofs.AppliedLemmas.{source_at}
use Rattle.crosspoint_state.proofs.LawLemmas.{its_pool}
use Rattle.number_tables.specs.Table.{put}
use Rattle.tie_pools.specs.Counts.{count_at}
use Rattle.tie_pools.specs.CountsInside.{Demand}
use Rattle.tie_pools.specs.DemandInside.{AreDemandOf, route_of, left, taken}
use Rattle.tie_pools.specs.ReserveInside.{pool_to}
use Rattle.tie_pools.specs.declared.route.Route.{Route}
use Rattle.tie_pools.proofs.DemandLemmas.{more_if_other, fewer_if, fewer_if_other, some_number}
use Rattle.tie_pools.proofs.RouteLemmas.{route_found, demand_moved}
use Rattle.tie_pools.proofs.PlanLemmas.{untied_source}

-- The limit of a pool of which so many ways may be in use and so many are, where more would be.

pub low_limit : (size unkept now after : ℕ) → after ≤ size → min size (max unkept now) < after → now < after
low_limit size unkept now after fits exceeds = elim (cases_lt now after) [
  | inl less ↦ less
  | inr more ↦
      let most : now ≤ max unkept now = le-max_right unkept now in
      let up : after ≤ max unkept now = omega (arith, more, most) in
      let within : after ≤ min size (max unkept now) = le-min fits up in
      absurd (omega (arith, exceeds, within))
]

pub full_limit : (size unkept now : ℕ) → size ≤ now → min size (max unkept now) ≡ size
full_limit size unkept now more =
    let most : now ≤ max unkept now = le-max_right unkept now in
    let up : size ≤ max unkept now = omega (arith, more, most) in
    min-eq_left up

-- A pool is one by which the new source of some change comes, or it is none.

abbrev pub IsTaken : PlantData → List Change → ℕ → Type 0
IsTaken plant [] pool = ⊥
IsTaken plant (change ∷ changes) pool = (pool_to plant change ≡ Some pool) ⊎ IsTaken plant changes pool

abbrev pub NoneTakes : PlantData → List Change → ℕ → Type 0
NoneTakes plant [] pool = Unit {0}
NoneTakes plant (change ∷ changes) pool = (pool_to plant change ≢ Some pool) × NoneTakes plant changes pool

pub taken_or_not : (plant : PlantData) (changes : List Change) (pool : ℕ) → IsTaken plant changes pool ⊎ NoneTakes plant changes pool
taken_or_not plant [] pool = inr tt
taken_or_not plant (change ∷ changes) pool = by (pool_to plant change) refl (taken_or_not plant changes pool)
  where
    by : (to : Option ℕ) → pool_to plant change ≡ to → IsTaken plant changes pool ⊎ NoneTakes plant changes pool → IsTaken plant (change ∷ changes) pool ⊎ NoneTakes plant (change ∷ changes) pool
    by to is (inl so) = inl (inr so)
    by None is (inr none) = inr ((λ some. let no : None ≡ Some pool = sym is ∙ some in cc), none)
    by (Some other) is (inr none) = elim (cases_eq other pool) [
      | inl same ↦ inl (inl (is ∙ ap Some same))
      | inr apart ↦ inr ((λ some. apart (some_number other pool (sym is ∙ some))), none)
    ]

-- A destination that leaves a route makes no pool have more ways in use, and one that takes a route no other pool.

left_no_more : (demand : Demand) (route : Option Route) (pool : ℕ) → count_at (left demand route).used.entries pool ≤ count_at demand.used.entries pool
left_no_more demand None pool = omega arith
left_no_more demand (Some route) pool =
    let test : Bool = nat_eq (count_at demand.fed.entries route.way) 1 in
    elim (cases_eq pool route.pool) [
      | inl same ↦ subst (λ pool. count_at (left demand (Some route)).used.entries pool ≤ count_at demand.used.entries pool) (sym same) (omega (arith, fewer_if demand.used.entries route.pool test))
      | inr apart ↦ omega (arith, fewer_if_other demand.used.entries route.pool pool test apart)
    ]

taken_other : (demand : Demand) (route : Option Route) (pool : ℕ) → option_map (λ (route : Route). route.pool) route ≢ Some pool → count_at (taken demand route).used.entries pool ≡ count_at demand.used.entries pool
taken_other demand None pool other = refl
taken_other demand (Some route) pool other =
    more_if_other demand.used.entries route.pool pool (nat_eq (count_at demand.fed.entries route.way) 0) (λ same. other (ap Some (sym same)))

-- A pool by which no new source comes brings no more origins.
pub no_more : (plant : PlantData) (points : Crosspoints) (changes : List Change) (demand : Demand) (pool : ℕ) → AreInside plant changes → AreDemandOf plant points demand → NoneTakes plant changes pool → wanted plant (put_all points changes) pool ≤ wanted plant points pool
no_more plant points [] demand pool inside counted none = omega arith
no_more plant points (change ∷ changes) demand pool inside counted none =
    let before : Demand = left demand (route_of plant (source_of points change.dest)) in
    let aim : Option ℕ = source_at (untied change.source) in
    let moved = demand_moved plant points change.dest demand (untied change.source) (inside 0 change (omega arith)) counted in
    let rest = no_more plant (put points change.dest (untied change.source)) changes (taken before (route_of plant aim)) pool (All-tail (λ (change : Change). change.dest < destinations_of plant) change changes inside) moved none.1 in
    let other : option_map (λ (route : Route). route.pool) (route_of plant aim) ≢ Some pool = subst (λ aim. option_map (λ (route : Route). route.pool) (route_of plant aim) ≢ Some pool) (sym (untied_source change.source)) none.0 in
    omega (arith, rest, moved.used pool, counted.used pool, left_no_more demand (route_of plant (source_of points change.dest)) pool, taken_other before (route_of plant aim) pool other)

-- a pool by which a new source comes is one of the plant's
pub taken_below : (plant : PlantData) (changes : List Change) (pool : ℕ) → IsPlant plant → IsTaken plant changes pool → pool < length plant.pools
taken_below plant [] pool is taken = absurd taken
taken_below plant (change ∷ changes) pool is (inl to) = by (route_of plant change.source) refl to
  where
    by : (route : Option Route) → route_of plant change.source ≡ route → option_map (λ (route : Route). route.pool) route ≡ Some pool → pool < length plant.pools
    by None found to = cc
    by (Some route) found to = subst (λ pool. pool < length plant.pools) (some_number route.pool pool to) (let so = route_found plant change.source route found in its_pool plant so.number route.pool is so.pool)
taken_below plant (change ∷ changes) pool is (inr taken) = taken_below plant changes pool is taken
