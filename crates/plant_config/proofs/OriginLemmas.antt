-- Origins, pools and buses of a plant, in the subject's words.
use Rattle.std.proofs.Common.{◌≡◌, ◌≢◌, ℕ, ◌-◌, ◌<◌, true, false, List, map, slice_get, Option, Some, None, is_none, inl, inr, refl, sym, ◌∙◌, ap, subst, arith}
use Rattle.std.specs.List.{AllPairs}
use Rattle.std.proofs.lemmas.Bool.{cases_lt}
use Rattle.std.proofs.lemmas.Bool.Decides.{Decides-eqb}
use Rattle.std.proofs.lemmas.Map.Made.{AllPairs-from_IsDistinct}
use Rattle.std.proofs.lemmas.Option.{slice_get-map, slice_get_within, get_or_from_slice_get}
use Rattle.std.specs.Option.{option_map, option_map_or, MatchOption}
use Rattle.plant_config.specs.declared.records.Level.{Level}
use Rattle.plant_config.specs.declared.records.Source.{Source}
use Rattle.plant_config.specs.declared.records.Bus.{Bus}
use Rattle.plant_config.specs.Plant.{PlantData, source_numbers}
use Rattle.plant_config.specs.Sites.{Site, level_of}
use Rattle.plant_config.specs.Sources.{origin_of}
use Rattle.plant_config.specs.IsPlant.{is_local, IsSomeSo, IsOf, Leads, IsPool, IsRemote, IsSource, IsPlant}
use Rattle.plant_config.specs.Origins.{IsSourceOf, OriginsAreLocal, LeadsAcross, PoolsLeadAcross, BusesDiffer}

-- what is found at a number
found : {X Y : Type 0} (take : X → Y) (at : Option X) (y : Y) → option_map take at ≡ Some y → (x : X) × (at ≡ Some x) × (take x ≡ y)
found take None y h = cc
found take (Some x) y h = (x, refl, cc)

-- what is so of a thing that is there follows from another thing that is so of it
IsSomeSo-then : {X : Type 0} (P Q : X → Type 0) (at : Option X) → IsSomeSo at P → ((x : X) → at ≡ Some x → P x → Q x) → IsSomeSo at Q
IsSomeSo-then P Q None h then = h
IsSomeSo-then P Q (Some x) h then = then x refl h

-- what a plant has of a source that it has
has : (plant : PlantData) → IsPlant plant → (number : ℕ) (source : Source) → slice_get plant.sources number ≡ Some source → IsSource plant number source
has plant is number source h = let it = is.named.each_source number in rw h at it

-- an origin is local, by the pool that leads to the source
local_by : (plant : PlantData) (number : ℕ) (source : Source) (pool : Option ℕ) → slice_get plant.sources number ≡ Some source → source.pool ≡ pool →
    MatchOption pool (source.origin ≡ number) (IsRemote plant source.origin number) → is_local plant source.origin ≡ true
local_by plant number source None h by own = rw (own, h, by) refl
local_by plant number source (Some pool) h by remote = remote.local

-- a local source is its own origin, by the pool that leads to it
own_by : (plant : PlantData) (number : ℕ) (source : Source) (pool : Option ℕ) → source.pool ≡ pool → is_none pool ≡ true →
    MatchOption pool (source.origin ≡ number) (IsRemote plant source.origin number) → source.origin ≡ number
own_by plant number source None by none own = own
own_by plant number source (Some pool) by none remote = cc

local : (plant : PlantData) → IsPlant plant → (number origin : ℕ) → origin_of plant number ≡ Some origin → is_local plant origin ≡ true
local plant is number origin h =
    let at = found (λ (source : Source). source.origin) (slice_get plant.sources number) origin h in
    let here : is_local plant at.0.origin ≡ true = local_by plant number at.0 at.0.pool at.1 refl (has plant is number at.0 at.1).origin in
    subst (λ origin. is_local plant origin ≡ true) at.2 here

own : (plant : PlantData) → IsPlant plant → (number : ℕ) → is_local plant number ≡ true → origin_of plant number ≡ Some number
own plant is number h =
    elim (slice_get plant.sources number) as (λ (at : Option Source). slice_get plant.sources number ≡ at → option_map_or (λ (source : Source). is_none source.pool) at false ≡ true → option_map (λ (source : Source). source.origin) at ≡ Some number) [
      | None ↦ λ at none. cc
      | Some source ↦ λ at none. ap Some (own_by plant number source source.pool refl none (has plant is number source at).origin)
    ] refl h

pub origins_are_local : (plant : PlantData) → IsPlant plant → OriginsAreLocal plant
origins_are_local plant is = record { local = local plant is; own = own plant is }

-- a source of a level is at a place of that level
IsSourceOf-level : (plant : PlantData) (matrix level number : ℕ) → IsOf source_numbers plant matrix level number → IsSourceOf plant matrix level number
IsSourceOf-level plant matrix level number is =
    elim (level_of source_numbers plant number) as (λ (found : Option Level). IsSomeSo found (λ at. (at.matrix ≡ matrix) × (at.level ≡ level)) → IsSomeSo (option_map (λ (at : Level). let p : Site = record { matrix = at.matrix; level = at.level; number = number - at.first_source } in p) found) (λ at. (at.matrix ≡ matrix) × (at.level ≡ level))) [
      | None ↦ λ h. h
      | Some at ↦ λ h. h
    ] is

pub pools_lead_across : (plant : PlantData) → IsPlant plant → PoolsLeadAcross plant
pools_lead_across plant is number origin pool from_origin by_pool =
    let at = found (λ (source : Source). source.origin) (slice_get plant.sources number) origin from_origin in
    let by : at.0.pool ≡ Some pool = rw at.1 at by_pool in
    let it = (has plant is number at.0 at.1).origin in
    let remote : IsRemote plant at.0.origin number pool = rw by at it in
    IsSomeSo-then (Leads plant at.0.origin number) (LeadsAcross plant origin number) (slice_get plant.pools pool) remote.tied (λ found there leads.
    let pools = is.linked.pools.1 pool found (slice_get_within plant.pools pool found there) in
    let it_is : IsPool found = subst IsPool (get_or_from_slice_get plant.pools pool found found there) pools in
    record {
      from = subst (IsSourceOf plant found.from found.level) at.2 (IsSourceOf-level plant found.from found.level at.0.origin leads.from);
      to = IsSourceOf-level plant found.to found.level number leads.to;
      across = it_is.other;
    })

-- of numbers that differ, one has no number of the other
behind : (numbers : List ℕ) → AllPairs (λ x y. x ≢ y) numbers → (first second number : ℕ) → slice_get numbers first ≡ Some number → slice_get numbers second ≡ Some number → ¬ (first < second)
behind numbers differ first second number h g before =
    differ first second number before (slice_get_within numbers second number g)
    (get_or_from_slice_get numbers first number number h ∙ sym (get_or_from_slice_get numbers second number number g))

pub buses_differ : (plant : PlantData) → IsPlant plant → BusesDiffer plant
buses_differ plant is first second dest h g =
    let dests : List ℕ = map (λ (bus : Bus). bus.dest) plant.buses in
    let differ = AllPairs-from_IsDistinct Decides-eqb dests is.linked.buses_differ in
    let at_first : slice_get dests first ≡ Some dest = slice_get-map (λ (bus : Bus). bus.dest) plant.buses first ∙ h in
    let at_second : slice_get dests second ≡ Some dest = slice_get-map (λ (bus : Bus). bus.dest) plant.buses second ∙ g in
    let not_before : first < second → ⊥ = behind dests differ first second dest at_first at_second in
    let not_behind : second < first → ⊥ = behind dests differ second first dest at_second at_first in
    elim (cases_lt first second) [
      | inl before ↦ absurd (not_before before)
      | inr after ↦ elim (cases_lt second first) [
        | inl before ↦ absurd (not_behind before)
        | inr same ↦ omega arith
      ]
    ]
