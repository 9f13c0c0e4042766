-- Whoever shares ties with the first destinations shares them with all earlier ones.
use Rattle.std.proofs.Common.{◌≡◌, ℕ, ◌+◌, ◌^◌, ◌<◌, ◌≤◌, nat_eq, nat_lt, Bool, true, false, not, ◌&&◌, ◌||◌, zero, suc, List, slice_get, Result, Ok, Err, IfOk, Option, Some, None, is_none, unwrap_or, inl, inr, refl, ap, sym, subst, ◌∙◌, arith, eq-eqb}
use Rattle.std.proofs.lemmas.Bool.{cases_eq, cases_lt, and_parts, both_ways, lt-ltb, le-ltb}
use Rattle.std.specs.Bool.{beq}
use Rattle.std.specs.List.{list_all, range_with_len}
use Rattle.std.specs.Option.{option_and_then, option_eq}
use Rattle.std.specs.Ordering.{nat_cmp}
use Rattle.std.specs.BTreeMap.{BTreeMap, get, IsEmpty}
use Rattle.plant_config.specs.Plant.{PlantData}
use Rattle.plant_config.specs.declared.records.Pool.{Pool}
use Rattle.plant_config.specs.Sources.{origin_of, pool_of}
use Rattle.crosspoint_state.specs.Ties.{size_of}
use Rattle.crosspoint_state.proofs.TieLemmas.{same_option, remote_origin}
use Rattle.plant_core.specs.StateFault.{source_in, pool_in, tie_in, origin_in, shares_by_origin, all_share_by_origin, tie_by, tie_holds}
use Rattle.plant_core.specs.FirstTies.{key_number, key_of, tie_key, origin_key, AreFirstsOf, HoldBelow, ComesFirst}
use Rattle.plant_core.proofs.TestLemmas.{all_more, all_broken}
use Rattle.plant_core.proofs.FirstDestLemmas.{firsts_none, firsts_same, firsts_more, first_is, first_below, key_is, key_back}

-- sharing, said of pools, ties and origins

record Shares (plant : PlantData) (bytes : List ℕ) (one two : ℕ) : Type 0 where
  pub origin : pool_in plant bytes one ≡ pool_in plant bytes two → tie_in bytes one ≡ tie_in bytes two → origin_in plant bytes one ≡ origin_in plant bytes two
  pub tie : pool_in plant bytes one ≡ pool_in plant bytes two → origin_in plant bytes one ≡ origin_in plant bytes two → tie_in bytes one ≡ tie_in bytes two

shares_back : (plant : PlantData) (bytes : List ℕ) (one two : ℕ) → Shares plant bytes one two → Shares plant bytes two one
shares_back plant bytes one two shares = record {
  origin = λ pools ties. sym (shares.origin (sym pools) (sym ties));
  tie = λ pools origins. sym (shares.tie (sym pools) (sym origins));
}

option_same : (a b : Option ℕ) → a ≡ b → option_eq nat_eq a b ≡ true
option_same None b e = ap (λ (o : Option ℕ). option_eq nat_eq None o) (sym e)
option_same (Some x) b e = ap (λ (o : Option ℕ). option_eq nat_eq (Some x) o) (sym e) ∙ eq-eqb x x refl

beq_same : (a b : Bool) → beq a b ≡ true → a ≡ b
beq_same true true is = refl
beq_same false false is = refl
beq_same true false is = absurd (cc)
beq_same false true is = absurd (cc)

pools_differ : (pools same : Bool) → (not pools || same) ≡ true → pools ≡ true → same ≡ true
pools_differ true same is of = is
pools_differ false same is of = absurd (cc)

-- what the test says where the pools are one
tests_same : (plant : PlantData) (bytes : List ℕ) (dest earlier : ℕ) → shares_by_origin plant bytes dest earlier ≡ true → pool_in plant bytes earlier ≡ pool_in plant bytes dest → option_eq nat_eq (tie_in bytes earlier) (tie_in bytes dest) ≡ option_eq nat_eq (origin_in plant bytes earlier) (origin_in plant bytes dest)
unfolding shares_by_origin
tests_same plant bytes dest earlier is pools =
    beq_same (option_eq nat_eq (tie_in bytes earlier) (tie_in bytes dest)) (option_eq nat_eq (origin_in plant bytes earlier) (origin_in plant bytes dest))
    (pools_differ (option_eq nat_eq (pool_in plant bytes earlier) (pool_in plant bytes dest))
    (beq (option_eq nat_eq (tie_in bytes earlier) (tie_in bytes dest)) (option_eq nat_eq (origin_in plant bytes earlier) (origin_in plant bytes dest))) is
    (option_same (pool_in plant bytes earlier) (pool_in plant bytes dest) pools))

shares_of : (plant : PlantData) (bytes : List ℕ) (dest earlier : ℕ) → shares_by_origin plant bytes dest earlier ≡ true → Shares plant bytes earlier dest
shares_of plant bytes dest earlier is = record {
  origin = λ pools ties. same_option (origin_in plant bytes earlier) (origin_in plant bytes dest) (sym (tests_same plant bytes dest earlier is pools) ∙ option_same (tie_in bytes earlier) (tie_in bytes dest) ties);
  tie = λ pools origins. same_option (tie_in bytes earlier) (tie_in bytes dest) (tests_same plant bytes dest earlier is pools ∙ option_same (origin_in plant bytes earlier) (origin_in plant bytes dest) origins);
}

shares_by : (pools ties origins : Bool) → (pools ≡ true → ties ≡ true → origins ≡ true) → (pools ≡ true → origins ≡ true → ties ≡ true) → (not pools || beq ties origins) ≡ true
shares_by false ties origins there back = refl
shares_by true true true there back = refl
shares_by true false false there back = refl
shares_by true true false there back = there refl refl
shares_by true false true there back = back refl refl

shares_test : (plant : PlantData) (bytes : List ℕ) (dest earlier : ℕ) → Shares plant bytes earlier dest → shares_by_origin plant bytes dest earlier ≡ true
unfolding shares_by_origin
shares_test plant bytes dest earlier shares =
    shares_by (option_eq nat_eq (pool_in plant bytes earlier) (pool_in plant bytes dest)) (option_eq nat_eq (tie_in bytes earlier) (tie_in bytes dest)) (option_eq nat_eq (origin_in plant bytes earlier) (origin_in plant bytes dest))
    (λ pools ties. option_same (origin_in plant bytes earlier) (origin_in plant bytes dest) (shares.origin (same_option (pool_in plant bytes earlier) (pool_in plant bytes dest) pools) (same_option (tie_in bytes earlier) (tie_in bytes dest) ties)))
    (λ pools origins. option_same (tie_in bytes earlier) (tie_in bytes dest) (shares.tie (same_option (pool_in plant bytes earlier) (pool_in plant bytes dest) pools) (same_option (origin_in plant bytes earlier) (origin_in plant bytes dest) origins)))

shares_itself : (plant : PlantData) (bytes : List ℕ) (dest : ℕ) → Shares plant bytes dest dest
shares_itself plant bytes dest = record { origin = λ pools ties. refl; tie = λ pools origins. refl }

-- earlier destinations share with each other

tie_by_all : (plant : PlantData) (bytes : List ℕ) (dest p : ℕ) (pool tie : Option ℕ) → pool ≡ Some p → tie_by plant bytes dest pool tie ≡ true → all_share_by_origin plant bytes dest ≡ true
tie_by_all plant bytes dest p None tie is holds = absurd (cc)
tie_by_all plant bytes dest p (Some pool) None is holds = absurd (cc)
tie_by_all plant bytes dest p (Some pool) (Some tie) is holds = (and_parts (nat_lt tie (size_of plant pool)) (all_share_by_origin plant bytes dest) holds).1

held_all : (plant : PlantData) (bytes : List ℕ) (dest p : ℕ) → tie_holds plant bytes dest ≡ true → pool_in plant bytes dest ≡ Some p → all_share_by_origin plant bytes dest ≡ true
unfolding tie_holds
held_all plant bytes dest p holds is = tie_by_all plant bytes dest p (pool_in plant bytes dest) (tie_in bytes dest) is holds

one_of_all : (test : ℕ → Bool) (number count : ℕ) (here : Bool) → number < count → list_all test (range_with_len 0 count) ≡ true → test number ≡ here → here ≡ true
one_of_all test number count true below all is = refl
one_of_all test number count false below all is = absurd (both_ways (list_all test (range_with_len 0 count)) (all_broken number count test below is) all)

shares_earlier : (plant : PlantData) (bytes : List ℕ) (dest earlier : ℕ) → all_share_by_origin plant bytes dest ≡ true → earlier < dest → Shares plant bytes earlier dest
unfolding all_share_by_origin
shares_earlier plant bytes dest earlier all below =
    shares_of plant bytes dest earlier (one_of_all (shares_by_origin plant bytes dest) earlier dest (shares_by_origin plant bytes dest earlier) below all refl)

pairwise : (plant : PlantData) (bytes : List ℕ) (count one two p : ℕ) → HoldBelow plant bytes count → one < count → two < count → pool_in plant bytes one ≡ Some p → pool_in plant bytes two ≡ Some p → Shares plant bytes one two
pairwise plant bytes count one two p hold below below_too pool pool_too = elim (cases_lt one two) [
  | inl before ↦ shares_earlier plant bytes two one (held_all plant bytes two p (hold two below_too) pool_too) before
  | inr behind ↦ elim (cases_eq two one) [
    | inl same ↦ subst (Shares plant bytes one) (sym same) (shares_itself plant bytes one)
    | inr other ↦ shares_back plant bytes two one (shares_earlier plant bytes one two (held_all plant bytes one p (hold one below) pool) (omega (arith, behind, other)))
  ]
]

-- a destination that shares with the first of its tie and the first of its origin shares with all

each_all : (count : ℕ) (test : ℕ → Bool) → ((number : ℕ) → number < count → test number ≡ true) → list_all test (range_with_len 0 count) ≡ true
each_all zero test each = refl
each_all (suc count) test each =
    let same : suc count ≡ count + 1 = omega arith in
    ap (λ (n : ℕ). list_all test (range_with_len 0 n)) same
    ∙ all_more count test (each_all count test (λ number below. each number (omega (arith, below)))) (each count (omega arith))

module _ (plant : PlantData) (bytes : List ℕ) (dest pool tie origin : ℕ) (by_tie by_origin : BTreeMap ℕ ℕ) (of_pool : pool_in plant bytes dest ≡ Some pool) (of_tie : tie_in bytes dest ≡ Some tie) (of_origin : origin_in plant bytes dest ≡ Some origin) (small_tie : tie < 2 ^ 32) (small_origin : origin < 2 ^ 32) (hold : HoldBelow plant bytes dest) (are : AreFirstsOf plant bytes dest by_tie by_origin) where
  same_tie : ℕ
  same_tie = unwrap_or (get nat_cmp by_tie (key_number pool tie)) dest

  same_origin : ℕ
  same_origin = unwrap_or (get nat_cmp by_origin (key_number pool origin)) dest

  tie_key_is : tie_key plant bytes dest ≡ Some (key_number pool tie)
  unfolding tie_key
  tie_key_is = key_is (pool_in plant bytes dest) (tie_in bytes dest) pool tie of_pool of_tie small_tie

  origin_key_is : origin_key plant bytes dest ≡ Some (key_number pool origin)
  unfolding origin_key
  origin_key_is = key_is (pool_in plant bytes dest) (origin_in plant bytes dest) pool origin of_pool of_origin small_origin

  pub tie_first_within : unwrap_or (get nat_cmp by_tie (key_number pool tie)) dest ≤ dest
  tie_first_within = (first_is (tie_key plant bytes) dest (key_number pool tie) by_tie tie_key_is are.ties).0

  pub origin_first_within : unwrap_or (get nat_cmp by_origin (key_number pool origin)) dest ≤ dest
  origin_first_within = (first_is (origin_key plant bytes) dest (key_number pool origin) by_origin origin_key_is are.origins).0

  tie_back : (d : ℕ) → tie_key plant bytes d ≡ Some (key_number pool tie) → (pool_in plant bytes d ≡ Some pool) × (tie_in bytes d ≡ Some tie)
  unfolding tie_key
  tie_back d is = key_back (pool_in plant bytes d) (tie_in bytes d) pool tie small_tie is

  origin_back : (d : ℕ) → origin_key plant bytes d ≡ Some (key_number pool origin) → (pool_in plant bytes d ≡ Some pool) × (origin_in plant bytes d ≡ Some origin)
  unfolding origin_key
  origin_back d is = key_back (pool_in plant bytes d) (origin_in plant bytes d) pool origin small_origin is

  tie_key_of : (d : ℕ) → pool_in plant bytes d ≡ Some pool → tie_in bytes d ≡ Some tie → tie_key plant bytes d ≡ Some (key_number pool tie)
  unfolding tie_key
  tie_key_of d pools ties = key_is (pool_in plant bytes d) (tie_in bytes d) pool tie pools ties small_tie

  origin_key_of : (d : ℕ) → pool_in plant bytes d ≡ Some pool → origin_in plant bytes d ≡ Some origin → origin_key plant bytes d ≡ Some (key_number pool origin)
  unfolding origin_key
  origin_key_of d pools origins = key_is (pool_in plant bytes d) (origin_in plant bytes d) pool origin pools origins small_origin

  of_ties : (earlier : ℕ) → Shares plant bytes same_tie dest → earlier < dest → pool_in plant bytes earlier ≡ pool_in plant bytes dest → tie_in bytes earlier ≡ tie_in bytes dest → origin_in plant bytes earlier ≡ origin_in plant bytes dest
  unfolding same_tie
  of_ties earlier shares below pools ties =
      let pooled = pools ∙ of_pool in
      let tied = ties ∙ of_tie in
      let found = first_below (tie_key plant bytes) dest (key_number pool tie) earlier by_tie below (tie_key_of earlier pooled tied) are.ties in
      let first : ℕ = unwrap_or (get nat_cmp by_tie (key_number pool tie)) dest in
      let back = tie_back first found.1 in
      (pairwise plant bytes dest earlier first pool hold below found.0 pooled back.0).origin (pooled ∙ sym back.0) (tied ∙ sym back.1)
      ∙ shares.origin (back.0 ∙ sym of_pool) (back.1 ∙ sym of_tie)

  of_origins : (earlier : ℕ) → Shares plant bytes same_origin dest → earlier < dest → pool_in plant bytes earlier ≡ pool_in plant bytes dest → origin_in plant bytes earlier ≡ origin_in plant bytes dest → tie_in bytes earlier ≡ tie_in bytes dest
  unfolding same_origin
  of_origins earlier shares below pools origins =
      let pooled = pools ∙ of_pool in
      let comes = origins ∙ of_origin in
      let found = first_below (origin_key plant bytes) dest (key_number pool origin) earlier by_origin below (origin_key_of earlier pooled comes) are.origins in
      let first : ℕ = unwrap_or (get nat_cmp by_origin (key_number pool origin)) dest in
      let back = origin_back first found.1 in
      (pairwise plant bytes dest earlier first pool hold below found.0 pooled back.0).tie (pooled ∙ sym back.0) (comes ∙ sym back.1)
      ∙ shares.tie (back.0 ∙ sym of_pool) (back.1 ∙ sym of_origin)

  all_true : shares_by_origin plant bytes dest same_tie ≡ true → shares_by_origin plant bytes dest same_origin ≡ true → all_share_by_origin plant bytes dest ≡ true
  unfolding all_share_by_origin
  all_true by_ties by_origins =
      each_all dest (shares_by_origin plant bytes dest) (λ earlier below.
      shares_test plant bytes dest earlier (record {
        origin = λ pools ties. of_ties earlier (shares_of plant bytes dest same_tie by_ties) below pools ties;
        tie = λ pools origins. of_origins earlier (shares_of plant bytes dest same_origin by_origins) below pools origins;
      }))

  all_false : (first : ℕ) → first ≤ dest → shares_by_origin plant bytes dest first ≡ false → all_share_by_origin plant bytes dest ≡ false
  unfolding all_share_by_origin
  all_false first within broken = elim (cases_eq first dest) [
    | inl same ↦ absurd (both_ways (shares_by_origin plant bytes dest first) broken (ap (shares_by_origin plant bytes dest) same ∙ shares_test plant bytes dest dest (shares_itself plant bytes dest)))
    | inr other ↦ all_broken first dest (shares_by_origin plant bytes dest) (omega (arith, within, other)) broken
  ]

  by_both : (ties origins : Bool) → shares_by_origin plant bytes dest same_tie ≡ ties → shares_by_origin plant bytes dest same_origin ≡ origins → (ties && origins) ≡ all_share_by_origin plant bytes dest
  unfolding same_tie same_origin
  by_both true true is is_too = sym (all_true is is_too)
  by_both false origins is is_too = sym (all_false same_tie tie_first_within is)
  by_both true false is is_too = sym (all_false same_origin origin_first_within is_too)

  pub all_by_firsts : (shares_by_origin plant bytes dest (unwrap_or (get nat_cmp by_tie (key_number pool tie)) dest) && shares_by_origin plant bytes dest (unwrap_or (get nat_cmp by_origin (key_number pool origin)) dest)) ≡ all_share_by_origin plant bytes dest
  unfolding same_tie same_origin
  all_by_firsts = by_both (shares_by_origin plant bytes dest same_tie) (shares_by_origin plant bytes dest same_origin) refl refl

  pub both_more : (new_ties new_origins : BTreeMap ℕ ℕ) → ComesFirst by_tie new_ties (key_number pool tie) dest → ComesFirst by_origin new_origins (key_number pool origin) dest → AreFirstsOf plant bytes (dest + 1) new_ties new_origins
  both_more new_ties new_origins ties origins = record {
    ties = firsts_more (tie_key plant bytes) dest (key_number pool tie) by_tie new_ties tie_key_is ties are.ties;
    origins = firsts_more (origin_key plant bytes) dest (key_number pool origin) by_origin new_origins origin_key_is origins are.origins;
  }

-- a destination without a pool has no keys
pub both_same : (plant : PlantData) (bytes : List ℕ) (dest : ℕ) (by_tie by_origin : BTreeMap ℕ ℕ) → pool_in plant bytes dest ≡ None → AreFirstsOf plant bytes dest by_tie by_origin → AreFirstsOf plant bytes (dest + 1) by_tie by_origin
unfolding tie_key origin_key
both_same plant bytes dest by_tie by_origin none are = record {
  ties = firsts_same (tie_key plant bytes) dest by_tie (ap (λ (pool : Option ℕ). key_of pool (tie_in bytes dest)) none) are.ties;
  origins = firsts_same (origin_key plant bytes) dest by_origin (ap (λ (pool : Option ℕ). key_of pool (origin_in plant bytes dest)) none) are.origins;
}

pub both_none : (plant : PlantData) (bytes : List ℕ) (by_tie by_origin : BTreeMap ℕ ℕ) → IsEmpty by_tie → IsEmpty by_origin → AreFirstsOf plant bytes 0 by_tie by_origin
both_none plant bytes by_tie by_origin ties origins = record {
  ties = firsts_none (tie_key plant bytes) by_tie ties;
  origins = firsts_none (origin_key plant bytes) by_origin origins;
}

-- what comes by a pool has an origin
origin_by : (plant : PlantData) (source : Option ℕ) (pool : ℕ) → option_and_then (pool_of plant) source ≡ Some pool → option_and_then (origin_of plant) source ≡ None → ⊥
origin_by plant None pool pooled none = (cc)
origin_by plant (Some source) pool pooled none =
    let found = remote_origin plant source pool pooled in
    let no : None ≡ Some found.0 = sym none ∙ found.1 in
    (cc)

pub has_origin : (plant : PlantData) (bytes : List ℕ) (dest pool : ℕ) → pool_in plant bytes dest ≡ Some pool → origin_in plant bytes dest ≡ None → ⊥
unfolding pool_in origin_in
has_origin plant bytes dest pool pooled none = origin_by plant (source_in bytes dest) pool pooled none

-- how a tie holds, by the parts that are known
pub tie_parked : (plant : PlantData) (bytes : List ℕ) (dest : ℕ) → pool_in plant bytes dest ≡ None → is_none (tie_in bytes dest) ≡ tie_holds plant bytes dest
unfolding tie_holds
tie_parked plant bytes dest none = sym (ap (λ (pool : Option ℕ). tie_by plant bytes dest pool (tie_in bytes dest)) none)

pub tie_missing : (plant : PlantData) (bytes : List ℕ) (dest pool : ℕ) → pool_in plant bytes dest ≡ Some pool → tie_in bytes dest ≡ None → false ≡ tie_holds plant bytes dest
unfolding tie_holds
tie_missing plant bytes dest pool pooled none =
    sym (ap (λ (pool : Option ℕ). tie_by plant bytes dest pool (tie_in bytes dest)) pooled ∙ ap (tie_by plant bytes dest (Some pool)) none)

tie_known : (plant : PlantData) (bytes : List ℕ) (dest pool tie : ℕ) → pool_in plant bytes dest ≡ Some pool → tie_in bytes dest ≡ Some tie → (nat_lt tie (size_of plant pool) && all_share_by_origin plant bytes dest) ≡ tie_holds plant bytes dest
unfolding tie_holds
tie_known plant bytes dest pool tie pooled tied =
    sym (ap (λ (pool : Option ℕ). tie_by plant bytes dest pool (tie_in bytes dest)) pooled ∙ ap (tie_by plant bytes dest (Some pool)) tied)

pub tie_too_great : (plant : PlantData) (bytes : List ℕ) (dest pool tie : ℕ) → pool_in plant bytes dest ≡ Some pool → tie_in bytes dest ≡ Some tie → size_of plant pool ≤ tie → false ≡ tie_holds plant bytes dest
tie_too_great plant bytes dest pool tie pooled tied great =
    let above : nat_lt tie (size_of plant pool) ≡ false = le-ltb tie (size_of plant pool) great in
    sym (ap (λ (b : Bool). b && all_share_by_origin plant bytes dest) above) ∙ tie_known plant bytes dest pool tie pooled tied

pub tie_shared : (plant : PlantData) (bytes : List ℕ) (dest pool tie : ℕ) (all : Bool) → pool_in plant bytes dest ≡ Some pool → tie_in bytes dest ≡ Some tie → tie < size_of plant pool → all ≡ all_share_by_origin plant bytes dest → all ≡ tie_holds plant bytes dest
tie_shared plant bytes dest pool tie all pooled tied below is =
    is ∙ sym (ap (λ (b : Bool). b && all_share_by_origin plant bytes dest) (lt-ltb tie (size_of plant pool) below)) ∙ tie_known plant bytes dest pool tie pooled tied

pub size_is : (plant : PlantData) (pool : ℕ) (found : Pool) → slice_get plant.pools pool ≡ Some found → size_of plant pool ≡ found.ties
size_is plant pool found is = rw is refl

-- what holds of an answer is more of it
pub ok_more : {E : Type 0} (P Q : Bool → Type 0) (result : Result Bool E) → ((all : Bool) → P all → Q all) → IfOk result P → IfOk result Q
ok_more P Q (Ok all) more is = more all is
ok_more P Q (Err e) more is = tt
