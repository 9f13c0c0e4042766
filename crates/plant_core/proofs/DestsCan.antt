-- What is read of the destinations of a text without a fault can stand, and has the text that was read.
use Rattle.std.proofs.Common.{◌≡◌, ℕ, ◌+◌, ◌*◌, ◌<◌, ◌≤◌, ◌==◌, nat_eq, nat_lt, nat_le, Bool, true, false, cond, not, ◌&&◌, ◌||◌, List, ◌++◌, length, Option, Some, None, MatchOption, ◌↔◌, inl, inr, refl, sym, ap, ◌∙◌, arith}
use Rattle.std.proofs.lemmas.Bool.{false≢true, both_ways, true_from_ne_false, and_parts, ltb-true, leb-true, cases_order}
use Rattle.std.specs.Bool.{beq}
use Rattle.std.specs.Option.{option_map, option_map_or, option_and_then, option_eq, IsSomeAnd}
use Rattle.std.specs.List.{range_with_len, list_all}
use Rattle.std.specs.FinMap.{get, insert}
use Rattle.crosspoint_state.specs.Table.{put}
use Rattle.plant_config.specs.Limits.{last_device}
use Rattle.plant_config.specs.Plant.{PlantData, destinations_of}
use Rattle.plant_config.specs.IsPlant.{IsPlant}
use Rattle.plant_config.specs.Sources.{origin_of, pool_of}
use Rattle.crosspoint_state.specs.declared.spot.Spot.{Spot}
use Rattle.crosspoint_state.specs.Crosspoints.{Crosspoints}
use Rattle.crosspoint_state.specs.Ties.{size_of, ShareByOrigin, EachHasItsTie, AllShareByOrigin, HaveValidTies}
use Rattle.crosspoint_state.proofs.TieLemmas.{same_option}
use Rattle.protects.specs.Owners.{Owners, taken}
use Rattle.plant_core.specs.State.{AreCrosspoints, AreOwners}
use Rattle.plant_core.specs.Short.{IsShortDest}
use Rattle.plant_core.specs.StateText.{four_or_none, two_or_none, spot_text, dest_text, state_size}
use Rattle.plant_core.specs.StateFields.{place_of_dest}
use Rattle.plant_core.specs.StateFault.{first_fault, is_of_level, has_short_number, source_in, tie_in, pool_in, origin_in, source_holds, shares_by_origin, all_share_by_origin, tie_by, tie_holds, owner_holds}
use Rattle.plant_core.specs.ReadInside.{part, spot_in, owner_in, HaveBelow, dests_text}
use Rattle.plant_core.proofs.Changes.{source_same}
use Rattle.plant_core.proofs.TestLemmas.{all_broken}
use Rattle.plant_core.proofs.HoldLemmas.{source_held, tie_held, owner_held}
use Rattle.plant_core.proofs.PartLemmas.{AreBytes, parts_join, part_some_two, part_some_four, part_texts}
use Rattle.plant_core.proofs.LevelLemmas.{level_crosspoint, short_dest}
use Rattle.plant_core.proofs.DestsRead.{has_value, is_value}

-- a device takes a destination that none protects
pub taken_free : (owners : Owners) (device dest : ℕ) → get owners dest ≡ None → taken owners device dest ≡ put owners dest (Some device)
taken_free owners device dest free = ap (λ found. cond (option_map_or (λ owner. owner == device) found true) (insert owners dest device) owners) free

-- what a destination's spot says of its fields
spot_by : (source tie : Option ℕ) (spot : Spot) → option_map (λ (source : ℕ). let found : Spot = record { source = source; tie = tie } in found) source ≡ Some spot → (source ≡ Some spot.source) × (tie ≡ spot.tie)
spot_by None tie spot is = let no : ⊥ = (cc) in absurd no
spot_by (Some source) tie spot is = (ap (option_map (λ (found : Spot). found.source)) is, ap (option_and_then (λ (found : Spot). found.tie)) is)

spot_parts : (bytes : List ℕ) (dest : ℕ) (spot : Spot) → spot_in bytes dest ≡ Some spot → (source_in bytes dest ≡ Some spot.source) × (tie_in bytes dest ≡ spot.tie)
unfolding spot_in
spot_parts bytes dest spot is = spot_by (source_in bytes dest) (tie_in bytes dest) spot is

of_level : (plant : PlantData) (bytes : List ℕ) (dest source : ℕ) → source_in bytes dest ≡ Some source → source_holds plant bytes dest ≡ true → is_of_level plant dest source ≡ true
unfolding source_holds
of_level plant bytes dest source is holds = sym (ap (λ found. option_map_or (is_of_level plant dest) found true) is) ∙ holds

-- the fields of a destination that carries something
record Fields (plant : PlantData) (bytes : List ℕ) (dest : ℕ) (spot : Spot) : Type 0 where
  below : dest < destinations_of plant
  source : source_in bytes dest ≡ Some spot.source
  tie : tie_in bytes dest ≡ spot.tie

fields : (plant : PlantData) (bytes : List ℕ) (points : Crosspoints) (dest : ℕ) (spot : Spot) → HaveBelow (destinations_of plant) (spot_in bytes) points → get points dest ≡ Some spot → Fields plant bytes dest spot
fields plant bytes points dest spot have is =
    let found = is_value (destinations_of plant) dest spot (spot_in bytes) points have is in
    let parts = spot_parts bytes dest spot found.1 in
    record { below = found.0; source = parts.0; tie = parts.1 }

pub read_crosspoints : (plant : PlantData) (bytes : List ℕ) (points : Crosspoints) → IsPlant plant → first_fault plant bytes ≡ None → HaveBelow (destinations_of plant) (spot_in bytes) points → AreCrosspoints plant points
read_crosspoints plant bytes points is none have dest spot carried =
    let found = fields plant bytes points dest spot have carried in
    level_crosspoint plant dest spot.source is (of_level plant bytes dest spot.source found.source (source_held plant bytes dest found.below none))

-- its pool and its origin
pool_is : (plant : PlantData) (bytes : List ℕ) (dest source : ℕ) → source_in bytes dest ≡ Some source → pool_in plant bytes dest ≡ pool_of plant source
unfolding pool_in
pool_is plant bytes dest source is = ap (option_and_then (pool_of plant)) is

origin_is : (plant : PlantData) (bytes : List ℕ) (dest source : ℕ) → source_in bytes dest ≡ Some source → origin_in plant bytes dest ≡ origin_of plant source
unfolding origin_in
origin_is plant bytes dest source is = ap (option_and_then (origin_of plant)) is

has_by : (plant : PlantData) (bytes : List ℕ) (dest : ℕ) (pool tie : Option ℕ) → tie_by plant bytes dest pool tie ≡ true → MatchOption pool (tie ≡ None) (λ pool. IsSomeAnd tie (λ tie. tie < size_of plant pool))
has_by plant bytes dest None None is = refl
has_by plant bytes dest None (Some tie) is = absurd (false≢true is)
has_by plant bytes dest (Some pool) None is = absurd (false≢true is)
has_by plant bytes dest (Some pool) (Some tie) is = ltb-true tie (size_of plant pool) (and_parts (nat_lt tie (size_of plant pool)) (all_share_by_origin plant bytes dest) is).0

tie_rule : (plant : PlantData) (bytes : List ℕ) (dest : ℕ) (pool tie : Option ℕ) → pool_in plant bytes dest ≡ pool → tie_in bytes dest ≡ tie → tie_holds plant bytes dest ≡ true → tie_by plant bytes dest pool tie ≡ true
unfolding tie_holds
tie_rule plant bytes dest pool tie pools ties holds =
    sym (ap (λ found. tie_by plant bytes dest found (tie_in bytes dest)) pools ∙ ap (tie_by plant bytes dest pool) ties) ∙ holds

read_tied : (plant : PlantData) (bytes : List ℕ) (points : Crosspoints) → first_fault plant bytes ≡ None → HaveBelow (destinations_of plant) (spot_in bytes) points → EachHasItsTie plant points
read_tied plant bytes points none have dest spot carries =
    let found = fields plant bytes points dest spot have carries.carried in
    has_by plant bytes dest (pool_of plant spot.source) spot.tie
    (tie_rule plant bytes dest (pool_of plant spot.source) spot.tie (pool_is plant bytes dest spot.source found.source) found.tie (tie_held plant bytes dest found.below none))

-- An earlier destination of one pool shares its tie by origin.
both_true : (one two : Bool) → beq one two ≡ true → (one ≡ true) ↔ (two ≡ true)
both_true true true same = ((λ is. refl), (λ is. refl))
both_true true false same = absurd (false≢true same)
both_true false true same = absurd (false≢true same)
both_true false false same = ((λ is. is), (λ is. is))

same_tests : (one two : Option ℕ) → one ≡ two → option_eq nat_eq one two ≡ true
same_tests one two same = ap (option_eq nat_eq one) (sym same) ∙ source_same one

shares_by : (pool pool_too tie tie_too origin origin_too : Option ℕ) → pool ≡ pool_too → (not (option_eq nat_eq pool pool_too) || beq (option_eq nat_eq tie tie_too) (option_eq nat_eq origin origin_too)) ≡ true → (tie ≡ tie_too) ↔ (origin ≡ origin_too)
shares_by pool pool_too tie tie_too origin origin_too same shares =
    let tests : beq (option_eq nat_eq tie tie_too) (option_eq nat_eq origin origin_too) ≡ true =
    sym (ap (λ test. not test || beq (option_eq nat_eq tie tie_too) (option_eq nat_eq origin origin_too)) (same_tests pool pool_too same)) ∙ shares in
    let both = both_true (option_eq nat_eq tie tie_too) (option_eq nat_eq origin origin_too) tests in
    ((λ is. same_option origin origin_too (both.0 (same_tests tie tie_too is))), (λ is. same_option tie tie_too (both.1 (same_tests origin origin_too is))))

all_at : (number count : ℕ) (test : ℕ → Bool) → number < count → list_all test (range_with_len 0 count) ≡ true → test number ≡ true
all_at number count test below all = true_from_ne_false (test number) (λ no. both_ways (list_all test (range_with_len 0 count)) (all_broken number count test below no) all)

shares_at : (plant : PlantData) (bytes : List ℕ) (dest earlier : ℕ) → earlier < dest → all_share_by_origin plant bytes dest ≡ true → shares_by_origin plant bytes dest earlier ≡ true
unfolding all_share_by_origin
shares_at plant bytes dest earlier before all = all_at earlier dest (shares_by_origin plant bytes dest) before all

share_rule : (plant : PlantData) (bytes : List ℕ) (dest earlier : ℕ) → pool_in plant bytes earlier ≡ pool_in plant bytes dest → shares_by_origin plant bytes dest earlier ≡ true →
    (tie_in bytes earlier ≡ tie_in bytes dest) ↔ (origin_in plant bytes earlier ≡ origin_in plant bytes dest)
unfolding shares_by_origin
share_rule plant bytes dest earlier same shares =
    shares_by (pool_in plant bytes earlier) (pool_in plant bytes dest) (tie_in bytes earlier) (tie_in bytes dest) (origin_in plant bytes earlier) (origin_in plant bytes dest) same shares

all_by : (plant : PlantData) (bytes : List ℕ) (dest pool : ℕ) (tie : Option ℕ) → tie_by plant bytes dest (Some pool) tie ≡ true → all_share_by_origin plant bytes dest ≡ true
all_by plant bytes dest pool None is = absurd (false≢true is)
all_by plant bytes dest pool (Some tie) is = (and_parts (nat_lt tie (size_of plant pool)) (all_share_by_origin plant bytes dest) is).1

earlier_shares : (plant : PlantData) (bytes : List ℕ) (dest earlier : ℕ) (spot before : Spot) → first_fault plant bytes ≡ None → Fields plant bytes dest spot → Fields plant bytes earlier before → earlier < dest → ShareByOrigin plant before spot
earlier_shares plant bytes dest earlier spot before none found found_before lower pool pools pools_too =
    let here : pool_in plant bytes dest ≡ Some pool = pool_is plant bytes dest spot.source found.source ∙ pools_too in
    let there : pool_in plant bytes earlier ≡ Some pool = pool_is plant bytes earlier before.source found_before.source ∙ pools in
    let rule : tie_by plant bytes dest (Some pool) spot.tie ≡ true = tie_rule plant bytes dest (Some pool) spot.tie here found.tie (tie_held plant bytes dest found.below none) in
    let shared = share_rule plant bytes dest earlier (there ∙ sym here) (shares_at plant bytes dest earlier lower (all_by plant bytes dest pool spot.tie rule)) in
    let origin = origin_is plant bytes dest spot.source found.source in
    let origin_before = origin_is plant bytes earlier before.source found_before.source in
    ((λ is. sym origin_before ∙ shared.0 (found_before.tie ∙ is ∙ sym found.tie) ∙ origin), (λ is. sym found_before.tie ∙ shared.1 (origin_before ∙ is ∙ sym origin) ∙ found.tie))

same_spot : (one two : Spot) → (let one_spot : Option Spot = Some one in one_spot ≡ Some two) → one ≡ two
same_spot one two same = (cc)

read_shared : (plant : PlantData) (bytes : List ℕ) (points : Crosspoints) → first_fault plant bytes ≡ None → HaveBelow (destinations_of plant) (spot_in bytes) points → AllShareByOrigin plant points
read_shared plant bytes points none have first second one other carries carries_too =
    let found = fields plant bytes points first one have carries.carried in
    let found_too = fields plant bytes points second other have carries_too.carried in
    elim (cases_order first second) [
      | inl same ↦
          let alike : one ≡ other = same_spot one other (sym carries.carried ∙ ap (get points) same ∙ carries_too.carried) in
          λ pool pools pools_too. ((λ is. ap (λ (spot : Spot). origin_of plant spot.source) alike), (λ is. ap (λ (spot : Spot). spot.tie) alike))
      | inr apart ↦ elim apart [
        | inl lower ↦ earlier_shares plant bytes second first other one none found_too found lower
        | inr higher ↦
            λ pool pools pools_too.
            let shared = earlier_shares plant bytes first second one other none found found_too higher pool pools_too pools in
            ((λ is. sym (shared.0 (sym is))), (λ is. sym (shared.1 (sym is))))
      ]
    ]

pub read_ties : (plant : PlantData) (bytes : List ℕ) (points : Crosspoints) → first_fault plant bytes ≡ None → HaveBelow (destinations_of plant) (spot_in bytes) points → HaveValidTies plant points
read_ties plant bytes points none have = record { tied = read_tied plant bytes points none have; shared = read_shared plant bytes points none have }

-- the rules of an owner
owner_parts : (plant : PlantData) (bytes : List ℕ) (dest device : ℕ) → owner_in bytes dest ≡ Some device → owner_holds plant bytes dest ≡ true → (device ≤ last_device) × IsShortDest plant dest
unfolding owner_in owner_holds
owner_parts plant bytes dest device is holds =
    let both = and_parts (nat_le device last_device) (has_short_number plant dest)
    (sym (ap (λ found. option_map_or (λ device. nat_le device last_device && has_short_number plant dest) found true) is) ∙ holds) in
    (leb-true device last_device both.0, short_dest plant dest both.1)

pub read_owned : (plant : PlantData) (bytes : List ℕ) (owners : Owners) → first_fault plant bytes ≡ None → HaveBelow (destinations_of plant) (owner_in bytes) owners → AreOwners plant owners
read_owned plant bytes owners none have dest device owned =
    let found = is_value (destinations_of plant) dest device (owner_in bytes) owners have owned in
    (found.0, (owner_parts plant bytes dest device found.1 (owner_held plant bytes dest found.0 none)).0)

pub read_short_owned : (plant : PlantData) (bytes : List ℕ) (owners : Owners) → first_fault plant bytes ≡ None → HaveBelow (destinations_of plant) (owner_in bytes) owners → (dest device : ℕ) → get owners dest ≡ Some device → IsShortDest plant dest
read_short_owned plant bytes owners none have dest device owned =
    let found = is_value (destinations_of plant) dest device (owner_in bytes) owners have owned in
    (owner_parts plant bytes dest device found.1 (owner_held plant bytes dest found.0 none)).1

-- Where there is no source, there is no tie.
none_by : (plant : PlantData) (bytes : List ℕ) (dest : ℕ) (tie : Option ℕ) → tie_by plant bytes dest None tie ≡ true → tie ≡ None
none_by plant bytes dest None is = refl
none_by plant bytes dest (Some tie) is = absurd (false≢true is)

no_tie : (plant : PlantData) (bytes : List ℕ) (dest : ℕ) → tie_holds plant bytes dest ≡ true → source_in bytes dest ≡ None → tie_in bytes dest ≡ None
unfolding pool_in
no_tie plant bytes dest holds parked =
    none_by plant bytes dest (tie_in bytes dest) (tie_rule plant bytes dest None (tie_in bytes dest) (ap (option_and_then (pool_of plant)) parked) refl holds)

spot_text_by : (source tie : Option ℕ) → (source ≡ None → tie ≡ None) → spot_text (option_map (λ (source : ℕ). let found : Spot = record { source = source; tie = tie } in found) source) ≡ four_or_none source ++ four_or_none tie
spot_text_by None tie parked = ap (λ found. four_or_none None ++ four_or_none found) (sym (parked refl))
spot_text_by (Some source) tie parked = refl

spot_part : (bytes : List ℕ) (dest : ℕ) → AreBytes bytes → place_of_dest dest + 10 ≤ length bytes → (source_in bytes dest ≡ None → tie_in bytes dest ≡ None) → spot_text (spot_in bytes dest) ≡ part bytes (place_of_dest dest) 8
unfolding spot_in source_in tie_in
spot_part bytes dest are inside parked =
    spot_text_by (source_in bytes dest) (tie_in bytes dest) parked
    ∙ parts_join bytes (four_or_none (source_in bytes dest)) (four_or_none (tie_in bytes dest)) (place_of_dest dest) (place_of_dest dest + 4) 4 4
    (part_some_four bytes (place_of_dest dest) are (omega arith)) (part_some_four bytes (place_of_dest dest + 4) are (omega arith)) refl

owner_part : (bytes : List ℕ) (dest : ℕ) → AreBytes bytes → place_of_dest dest + 10 ≤ length bytes → two_or_none (owner_in bytes dest) ≡ part bytes (place_of_dest dest + 8) 2
unfolding owner_in
owner_part bytes dest are inside = part_some_two bytes (place_of_dest dest + 8) are (omega arith)

dest_inside : (dest dests groups panels displays size : ℕ) → dest < dests → size ≡ 16 + 10 * dests + groups + panels + displays → 16 + 10 * dest + 10 ≤ size
dest_inside dest dests groups panels displays size below is = omega arith

pub read_dests_text : (plant : PlantData) (bytes : List ℕ) (points : Crosspoints) (owners : Owners) → AreBytes bytes → length bytes ≡ state_size plant → first_fault plant bytes ≡ None → HaveBelow (destinations_of plant) (spot_in bytes) points → HaveBelow (destinations_of plant) (owner_in bytes) owners →
    dests_text plant points owners ≡ part bytes 16 (destinations_of plant * 10)
read_dests_text plant bytes points owners are size none have have_too = part_texts bytes 16 10 (destinations_of plant) (dest_text points owners) each
  where
    each : (dest : ℕ) → dest < destinations_of plant → dest_text points owners dest ≡ part bytes (16 + dest * 10) 10
    each dest below =
        let inside : place_of_dest dest + 10 ≤ length bytes = dest_inside dest (destinations_of plant) _ _ _ (length bytes) below size in
        let at : place_of_dest dest ≡ 16 + dest * 10 = omega arith in
        ap (λ found. spot_text found ++ two_or_none (get owners dest)) (has_value (destinations_of plant) dest (spot_in bytes) points have below)
        ∙ ap (λ found. spot_text (spot_in bytes dest) ++ two_or_none found) (has_value (destinations_of plant) dest (owner_in bytes) owners have_too below)
        ∙ parts_join bytes (spot_text (spot_in bytes dest)) (two_or_none (owner_in bytes dest)) (place_of_dest dest) (place_of_dest dest + 8) 8 2
        (spot_part bytes dest are inside (no_tie plant bytes dest (tie_held plant bytes dest below none))) (owner_part bytes dest are inside) refl
        ∙ ap (λ (place : ℕ). part bytes place 10) at
