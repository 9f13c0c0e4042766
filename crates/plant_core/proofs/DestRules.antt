-- The text of a valid state's destinations breaks no rule.
use Rattle.std.proofs.Common.{◌≡◌, ℕ, ◌+◌, ◌<◌, ◌≤◌, nat_eq, nat_lt, nat_le, Bool, true, false, not, ◌&&◌, ◌||◌, List, ◌++◌, is_none, Option, Some, None, IfSome, MatchOption, refl, ap, sym, subst, ◌∙◌, arith}
use Rattle.std.proofs.lemmas.Bool.{and_from, lt-ltb, le-leb}
use Rattle.std.specs.Bool.{beq}
use Rattle.std.specs.Option.{option_map_or, option_and_then, option_eq, IsSomeAnd}
use Rattle.std.specs.FinMap.{get}
use Rattle.plant_config.specs.IsPlant.{IsPlant}
use Rattle.plant_config.specs.Limits.{last_device}
use Rattle.plant_config.specs.Plant.{PlantData, destinations_of, sources_of}
use Rattle.plant_config.specs.Sources.{origin_of, pool_of}
use Rattle.plant_config.proofs.SiteLemmas.{source_at-below}
use Rattle.crosspoint_state.specs.declared.spot.Spot.{Spot}
use Rattle.crosspoint_state.specs.Crosspoints.{Crosspoints}
use Rattle.crosspoint_state.specs.Ties.{size_of, ShareByOrigin, HaveValidTies}
use Rattle.crosspoint_state.proofs.TieLemmas.{same_option}
use Rattle.tie_pools.proofs.CommitLemmas.{size_few}
use Rattle.plant_core.specs.State.{State, IsValid, IsCrosspoint}
use Rattle.plant_core.specs.Short.{StaysShort}
use Rattle.plant_core.specs.StateText.{four_or_none, two_or_none, spot_text}
use Rattle.plant_core.specs.StateFields.{some_two_at, place_of_dest}
use Rattle.plant_core.specs.StateFault.{first_broken, is_of_level, has_short_number, source_in, tie_in, pool_in, origin_in, source_holds, shares_by_origin, all_share_by_origin, tie_by, tie_holds, owner_holds, dest_fields}
use Rattle.plant_core.specs.ReadInside.{part}
use Rattle.plant_core.proofs.Changes.{source_same}
use Rattle.plant_core.proofs.TextFields.{IsSmall, source_told, tie_told}
use Rattle.plant_core.proofs.TextParts.{part_within, some_four_is, some_two_is}
use Rattle.plant_core.proofs.TextPlaces.{StandIn}
use Rattle.plant_core.proofs.TextRules.{crosspoint_level, dest_short, all_pass, holds_before}

-- the three parts of a destination's text
told_text : (spot : Option Spot) (owner : List ℕ) → spot_text spot ++ owner ≡ four_or_none (source_told spot) ++ four_or_none (tie_told spot) ++ owner
told_text None owner = refl
told_text (Some spot) owner = refl

front_part : (source tie : Option ℕ) (owner : List ℕ) → part (four_or_none source ++ four_or_none tie ++ owner) 0 4 ≡ four_or_none source
unfolding part
front_part None tie owner = refl
front_part (Some source) tie owner = refl

middle_part : (source tie : Option ℕ) (owner : List ℕ) → part (four_or_none source ++ four_or_none tie ++ owner) 4 4 ≡ four_or_none tie
unfolding part
middle_part None None owner = refl
middle_part None (Some tie) owner = refl
middle_part (Some source) None owner = refl
middle_part (Some source) (Some tie) owner = refl

last_part : (source tie owner : Option ℕ) → part (four_or_none source ++ four_or_none tie ++ two_or_none owner) 8 2 ≡ two_or_none owner
unfolding part
last_part None None None = refl
last_part None None (Some owner) = refl
last_part None (Some tie) None = refl
last_part None (Some tie) (Some owner) = refl
last_part (Some source) None None = refl
last_part (Some source) None (Some owner) = refl
last_part (Some source) (Some tie) None = refl
last_part (Some source) (Some tie) (Some owner) = refl

-- what a valid state has is small
pub source_small : (plant : PlantData) (dest : ℕ) (source : Option ℕ) → IsPlant plant → IfSome source (IsCrosspoint plant dest) → IsSmall source
source_small plant dest None is of = tt
source_small plant dest (Some source) is of =
    let below : source < sources_of plant = source_at-below plant of.matrix of.level of.source_number source is of.source_is in
    let few = is.sources in
    omega arith

tie_small : (plant : PlantData) (pool tie : Option ℕ) → IsPlant plant → MatchOption pool (tie ≡ None) (λ pool. IsSomeAnd tie (λ tie. tie < size_of plant pool)) → IsSmall tie
tie_small plant None tie is has = subst IsSmall (sym has) tt
tie_small plant (Some pool) None is has = tt
tie_small plant (Some pool) (Some tie) is has = let few : size_of plant pool ≤ 1024 = size_few plant pool is in omega arith

-- what the text tells of a destination is what it carries, and its owner
record Tells (bytes : List ℕ) (state : State) (dest : ℕ) : Type 0 where
  pub source : source_in bytes dest ≡ source_told (get state.crosspoints dest)
  pub tie : tie_in bytes dest ≡ tie_told (get state.crosspoints dest)
  pub owner : some_two_at bytes (place_of_dest dest + 8) ≡ get state.owners dest

spot_small : (state : State) (dest : ℕ) (spot : Option Spot) → IsValid state → dest < destinations_of state.plant → get state.crosspoints dest ≡ spot → IsSmall (source_told spot) × IsSmall (tie_told spot)
spot_small state dest None is inside carried = (tt, tt)
spot_small state dest (Some spot) is inside carried =
    (source_small state.plant dest (Some spot.source) is.is_plant (is.is_crosspoint dest spot carried), tie_small state.plant (pool_of state.plant spot.source) spot.tie is.is_plant (is.ties.tied dest spot (record { inside = inside; carried = carried })))

owner_small : (state : State) (dest : ℕ) (device : Option ℕ) → IsValid state → get state.owners dest ≡ device → IfSome device (λ device. device < 65535)
owner_small state dest None is owned = tt
owner_small state dest (Some device) is owned = let few = (is.owners dest device owned).1 in omega arith

tells : (bytes : List ℕ) (state : State) (dest : ℕ) → IsValid state → StandIn bytes state → dest < destinations_of state.plant → Tells bytes state dest
unfolding source_in tie_in
tells bytes state dest is stand below =
    let spot = get state.crosspoints dest in
    let owner = get state.owners dest in
    let source : Option ℕ = source_told spot in
    let tie : Option ℕ = tie_told spot in
    let text = four_or_none source ++ four_or_none tie ++ two_or_none owner in
    let stands : part bytes (place_of_dest dest) 10 ≡ text = stand.dest dest below ∙ told_text spot (two_or_none owner) in
    let small = spot_small state dest spot is below refl in
    record {
      source = some_four_is bytes (place_of_dest dest) source small.0 (part_within bytes text (place_of_dest dest) 10 (place_of_dest dest) 0 4 stands (omega arith) (omega arith) ∙ front_part source tie (two_or_none owner));
      tie = some_four_is bytes (place_of_dest dest + 4) tie small.1 (part_within bytes text (place_of_dest dest) 10 (place_of_dest dest + 4) 4 4 stands refl (omega arith) ∙ middle_part source tie (two_or_none owner));
      owner = some_two_is bytes (place_of_dest dest + 8) owner (owner_small state dest owner is refl) (part_within bytes text (place_of_dest dest) 10 (place_of_dest dest + 8) 8 2 stands refl (omega arith) ∙ last_part source tie owner);
    }

-- its source
spot_level : (state : State) (dest : ℕ) (spot : Option Spot) → IsValid state → get state.crosspoints dest ≡ spot → option_map_or (is_of_level state.plant dest) (source_told spot) true ≡ true
spot_level state dest None is carried = refl
spot_level state dest (Some spot) is carried = crosspoint_level state.plant dest spot.source is.is_plant (is.is_crosspoint dest spot carried)

source_rule : (bytes : List ℕ) (state : State) (dest : ℕ) → IsValid state → Tells bytes state dest → source_holds state.plant bytes dest ≡ true
unfolding source_holds
source_rule bytes state dest is told =
    ap (λ (source : Option ℕ). option_map_or (is_of_level state.plant dest) source true) told.source ∙ spot_level state dest (get state.crosspoints dest) is refl

-- its tie
tests_by : (pools ties origins : Bool) → (pools ≡ true → ties ≡ true → origins ≡ true) → (pools ≡ true → origins ≡ true → ties ≡ true) → (not pools || beq ties origins) ≡ true
tests_by false ties origins there back = refl
tests_by true true true there back = refl
tests_by true false false there back = refl
tests_by true true false there back = there refl refl
tests_by true false true there back = back refl refl

is_same : (one two : Option ℕ) → one ≡ two → option_eq nat_eq one two ≡ true
is_same one two same = ap (option_eq nat_eq one) (sym same) ∙ source_same one

abbrev sharing : PlantData → Option ℕ → Option ℕ → Option ℕ → Option ℕ → Bool
sharing plant source other tie tie_too =
    not (option_eq nat_eq (option_and_then (pool_of plant) source) (option_and_then (pool_of plant) other))
    || beq (option_eq nat_eq tie tie_too) (option_eq nat_eq (option_and_then (origin_of plant) source) (option_and_then (origin_of plant) other))

spots_share : (plant : PlantData) (one other : Spot) (pool : ℕ) → pool_of plant other.source ≡ Some pool → ShareByOrigin plant one other → sharing plant (Some one.source) (Some other.source) one.tie other.tie ≡ true
spots_share plant one other pool of_pool share =
    tests_by (option_eq nat_eq (pool_of plant one.source) (pool_of plant other.source)) (option_eq nat_eq one.tie other.tie) (option_eq nat_eq (origin_of plant one.source) (origin_of plant other.source))
    (λ pools ties. is_same (origin_of plant one.source) (origin_of plant other.source)
    ((share pool (same_option (pool_of plant one.source) (pool_of plant other.source) pools ∙ of_pool) of_pool).0 (same_option one.tie other.tie ties)))
    (λ pools origins. is_same one.tie other.tie
    ((share pool (same_option (pool_of plant one.source) (pool_of plant other.source) pools ∙ of_pool) of_pool).1 (same_option (origin_of plant one.source) (origin_of plant other.source) origins)))

carried_share : (plant : PlantData) (points : Crosspoints) (first second pool : ℕ) (one other : Option Spot) → HaveValidTies plant points → first < destinations_of plant → second < destinations_of plant →
    get points first ≡ one → get points second ≡ other → option_and_then (pool_of plant) (source_told other) ≡ Some pool → sharing plant (source_told one) (source_told other) (tie_told one) (tie_told other) ≡ true
carried_share plant points first second pool one None valid below below_too carried carried_too of_pool = absurd (cc)
carried_share plant points first second pool None (Some other) valid below below_too carried carried_too of_pool =
    tests_by (option_eq nat_eq None (pool_of plant other.source)) (option_eq nat_eq None other.tie) (option_eq nat_eq None (origin_of plant other.source))
    (λ pools. let same : None ≡ Some pool = same_option None (pool_of plant other.source) pools ∙ of_pool in absurd (cc))
    (λ pools. let same : None ≡ Some pool = same_option None (pool_of plant other.source) pools ∙ of_pool in absurd (cc))
carried_share plant points first second pool (Some one) (Some other) valid below below_too carried carried_too of_pool =
    spots_share plant one other pool of_pool (valid.shared first second one other (record { inside = below; carried = carried }) (record { inside = below_too; carried = carried_too }))

told_share : (bytes : List ℕ) (state : State) (dest earlier pool : ℕ) → IsValid state → dest < destinations_of state.plant → earlier < destinations_of state.plant → Tells bytes state dest → Tells bytes state earlier →
    option_and_then (pool_of state.plant) (source_told (get state.crosspoints dest)) ≡ Some pool → shares_by_origin state.plant bytes dest earlier ≡ true
unfolding shares_by_origin pool_in origin_in
told_share bytes state dest earlier pool is below below_too told told_too of_pool =
    let plant = state.plant in
    ap (λ (source : Option ℕ). sharing plant source (source_in bytes dest) (tie_in bytes earlier) (tie_in bytes dest)) told_too.source
    ∙ ap (λ (source : Option ℕ). sharing plant (source_told (get state.crosspoints earlier)) source (tie_in bytes earlier) (tie_in bytes dest)) told.source
    ∙ ap (λ (tie : Option ℕ). sharing plant (source_told (get state.crosspoints earlier)) (source_told (get state.crosspoints dest)) tie (tie_in bytes dest)) told_too.tie
    ∙ ap (λ (tie : Option ℕ). sharing plant (source_told (get state.crosspoints earlier)) (source_told (get state.crosspoints dest)) (tie_told (get state.crosspoints earlier)) tie) told.tie
    ∙ carried_share plant state.crosspoints earlier dest pool (get state.crosspoints earlier) (get state.crosspoints dest) is.ties below_too below refl refl of_pool

tie_case : (plant : PlantData) (bytes : List ℕ) (dest : ℕ) (pool tie : Option ℕ) → MatchOption pool (tie ≡ None) (λ pool. IsSomeAnd tie (λ tie. tie < size_of plant pool)) →
    ((found : ℕ) → pool ≡ Some found → all_share_by_origin plant bytes dest ≡ true) → tie_by plant bytes dest pool tie ≡ true
tie_case plant bytes dest None tie has shares = ap (λ (o : Option ℕ). is_none o) has
tie_case plant bytes dest (Some pool) None has shares = absurd has
tie_case plant bytes dest (Some pool) (Some tie) has shares = and_from (nat_lt tie (size_of plant pool)) (all_share_by_origin plant bytes dest) (lt-ltb tie (size_of plant pool) has) (shares pool refl)

spot_tied : (state : State) (dest : ℕ) (spot : Option Spot) → IsValid state → dest < destinations_of state.plant → get state.crosspoints dest ≡ spot →
    MatchOption (option_and_then (pool_of state.plant) (source_told spot)) (tie_told spot ≡ None) (λ pool. IsSomeAnd (tie_told spot) (λ tie. tie < size_of state.plant pool))
spot_tied state dest None is below carried = refl
spot_tied state dest (Some spot) is below carried = is.ties.tied dest spot (record { inside = below; carried = carried })

all_told_share : (bytes : List ℕ) (state : State) (dest pool : ℕ) → IsValid state → StandIn bytes state → dest < destinations_of state.plant →
    option_and_then (pool_of state.plant) (source_told (get state.crosspoints dest)) ≡ Some pool → all_share_by_origin state.plant bytes dest ≡ true
unfolding all_share_by_origin
all_told_share bytes state dest pool is stand below of_pool =
    all_pass (shares_by_origin state.plant bytes dest) dest
    (λ earlier before.
    let below_too : earlier < destinations_of state.plant = omega (arith, before, below) in
    told_share bytes state dest earlier pool is below below_too (tells bytes state dest is stand below) (tells bytes state earlier is stand below_too) of_pool)

tie_rule : (bytes : List ℕ) (state : State) (dest : ℕ) → IsValid state → StandIn bytes state → dest < destinations_of state.plant → Tells bytes state dest → tie_holds state.plant bytes dest ≡ true
unfolding tie_holds pool_in
tie_rule bytes state dest is stand below told =
    let plant = state.plant in
    let spot = get state.crosspoints dest in
    ap (λ (source : Option ℕ). tie_by plant bytes dest (option_and_then (pool_of plant) source) (tie_in bytes dest)) told.source
    ∙ ap (λ (tie : Option ℕ). tie_by plant bytes dest (option_and_then (pool_of plant) (source_told spot)) tie) told.tie
    ∙ tie_case plant bytes dest (option_and_then (pool_of plant) (source_told spot)) (tie_told spot) (spot_tied state dest spot is below refl) (λ pool of_pool. all_told_share bytes state dest pool is stand below of_pool)

-- its owner
owner_case : (state : State) (dest : ℕ) (owner : Option ℕ) → IsValid state → StaysShort state → get state.owners dest ≡ owner → option_map_or (λ (device : ℕ). nat_le device last_device && has_short_number state.plant dest) owner true ≡ true
owner_case state dest None is short owned = refl
owner_case state dest (Some device) is short owned =
    let of_plant = is.owners dest device owned in
    and_from (nat_le device last_device) (has_short_number state.plant dest) (le-leb device last_device of_plant.1) (dest_short state.plant dest is.is_plant of_plant.0 (short.owners dest device owned))

owner_rule : (bytes : List ℕ) (state : State) (dest : ℕ) → IsValid state → StaysShort state → Tells bytes state dest → owner_holds state.plant bytes dest ≡ true
unfolding owner_holds
owner_rule bytes state dest is short told =
    ap (λ (owner : Option ℕ). option_map_or (λ (device : ℕ). nat_le device last_device && has_short_number state.plant dest) owner true) told.owner ∙ owner_case state dest (get state.owners dest) is short refl

pub dest_whole : (bytes : List ℕ) (state : State) (dest : ℕ) → IsValid state → StaysShort state → StandIn bytes state → dest < destinations_of state.plant → first_broken (dest_fields state.plant bytes dest) ≡ None
unfolding dest_fields
dest_whole bytes state dest is short stand below =
    let told = tells bytes state dest is stand below in
    holds_before (place_of_dest dest) (source_holds state.plant bytes dest) _ (source_rule bytes state dest is told)
    (holds_before (place_of_dest dest + 4) (tie_holds state.plant bytes dest) _ (tie_rule bytes state dest is stand below told)
    (holds_before (place_of_dest dest + 8) (owner_holds state.plant bytes dest) None (owner_rule bytes state dest is short told) refl))
