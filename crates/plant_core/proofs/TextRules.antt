-- The rules of numbers that a plant's levels say, and fields of which none breaks a rule.
use Rattle.std.proofs.Common.{◌≡◌, ℕ, ◌+◌, ◌<◌, ◌≤◌, nat_eq, zero, suc, Bool, true, false, if◌then◌else◌, List, Option, Some, None, IfSome, IsSome, refl, ap, sym, subst, ◌∙◌, arith, eq-eqb}
use Rattle.std.proofs.lemmas.Bool.{false≢true, lt-ltb, and_from, or_from}
use Rattle.std.specs.List.{range_with_len, list_any, list_all}
use Rattle.std.specs.Option.{option_map, option_map_or, option_and_then, option_eq}
use Rattle.plant_config.specs.IsPlant.{IsPlant}
use Rattle.plant_config.specs.Plant.{PlantData, dest_numbers, destinations_of}
use Rattle.plant_config.specs.Sites.{Site, site_of, source_at, source_number_of}
use Rattle.plant_config.specs.declared.records.Point.{Point}
use Rattle.plant_config.proofs.SiteLemmas.{dests_are, IsSome-site_of, dest_at-point_of, source_at-source_number_of}
use Rattle.plant_core.specs.State.{IsCrosspoint}
use Rattle.plant_core.specs.Short.{IsShortDest, IsShortSource}
use Rattle.plant_core.specs.Wide.{is_short_dest, is_short_source}
use Rattle.plant_core.specs.StateFault.{Field, first_broken, fields_of_each, is_of_level, has_short_number, has_short_source_number}
use Rattle.plant_core.proofs.FaultLemmas.{none_at_first, none_more}

-- What may stand at a destination is of its level.
pub crosspoint_level : (plant : PlantData) (dest source : ℕ) → IsPlant plant → IsCrosspoint plant dest source → is_of_level plant dest source ≡ true
unfolding is_of_level
crosspoint_level plant dest source is at =
    ap (λ (found : Option Point). option_map_or (λ (at : Point). option_eq nat_eq (option_and_then (source_at plant at.matrix at.level) (source_number_of plant source)) (Some source)) found false)
    (dest_at-point_of plant at.matrix at.level at.dest_number dest is at.dest_is)
    ∙ ap (λ (number : Option ℕ). option_eq nat_eq (option_and_then (source_at plant at.matrix at.level) number) (Some source))
    (source_at-source_number_of plant at.matrix at.level at.source_number source is at.source_is)
    ∙ ap (λ (found : Option ℕ). option_eq nat_eq found (Some source)) at.source_is
    ∙ eq-eqb source source refl

-- What commands that aren't extended can tell has a short number.
abbrev point_at : Site → Point
point_at place = record { matrix = place.matrix; level = place.level; dest = place.number }

short_by : (site : Option Site) → IsSome site → IfSome (option_map point_at site) (λ (at : Point). at.dest < 1024) → option_map_or (λ (at : Point). is_short_dest at.dest) (option_map point_at site) false ≡ true
short_by None found short = absurd (false≢true found)
short_by (Some site) found short = lt-ltb site.number 1024 short

pub dest_short : (plant : PlantData) (dest : ℕ) → IsPlant plant → dest < destinations_of plant → IsShortDest plant dest → has_short_number plant dest ≡ true
unfolding has_short_number
dest_short plant dest is below short = short_by (site_of dest_numbers plant dest) (IsSome-site_of dest_numbers plant (dests_are plant is) dest below) short

pub source_short : (plant : PlantData) (dest source : ℕ) → IsPlant plant → IsCrosspoint plant dest source → IsShortSource plant (Some source) → has_short_source_number plant source ≡ true
unfolding has_short_source_number
source_short plant dest source is at short =
    let number = source_at-source_number_of plant at.matrix at.level at.source_number source is at.source_is in
    ap (λ (number : Option ℕ). option_map_or (λ (number : ℕ). is_short_source (Some number)) number false) number
    ∙ lt-ltb at.source_number 1023 (subst (λ (number : Option ℕ). IfSome number (λ number. number < 1023)) number short)

-- tests that all numbers in a row pass, and tests that none does
some_pass : (test : ℕ → Bool) (from count : ℕ) → ((number : ℕ) → number < from + count → test number ≡ true) → list_all test (range_with_len from count) ≡ true
some_pass test from zero each = refl
some_pass test from (suc count) each =
    and_from (test from) (list_all test (range_with_len (from + 1) count)) (each from (omega arith)) (some_pass test (from + 1) count (λ number below. each number (omega (arith, below))))

pub all_pass : (test : ℕ → Bool) (count : ℕ) → ((number : ℕ) → number < count → test number ≡ true) → list_all test (range_with_len 0 count) ≡ true
all_pass test count each = some_pass test 0 count (λ number below. each number (omega (arith, below)))

some_fail : (test : ℕ → Bool) (from count : ℕ) → ((number : ℕ) → number < from + count → test number ≡ false) → list_any test (range_with_len from count) ≡ false
some_fail test from zero each = refl
some_fail test from (suc count) each =
    or_from (test from) (list_any test (range_with_len (from + 1) count)) (each from (omega arith)) (some_fail test (from + 1) count (λ number below. each number (omega (arith, below))))

pub none_pass : (test : ℕ → Bool) (count : ℕ) → ((number : ℕ) → number < count → test number ≡ false) → list_any test (range_with_len 0 count) ≡ false
none_pass test count each = some_fail test 0 count (λ number below. each number (omega (arith, below)))

-- a choice of which the part that is taken holds
pub holds_then : (is one two : Bool) → is ≡ true → one ≡ true → (if is then one else two) ≡ true
holds_then true one two taken holds = holds
holds_then false one two taken holds = absurd (false≢true taken)

pub holds_else : (is one two : Bool) → is ≡ false → two ≡ true → (if is then one else two) ≡ true
holds_else true one two taken holds = absurd (false≢true (sym taken))
holds_else false one two taken holds = holds

-- a field that holds before others of which none breaks a rule
pub holds_before : (place : ℕ) (holds : Bool) (rest : Option ℕ) → holds ≡ true → rest ≡ None → (if holds then rest else Some place) ≡ None
holds_before place holds rest is none = ap (λ (held : Bool). if held then rest else Some place) is ∙ none

-- the fields of so many numbers
none_below : (count all : ℕ) (fields : ℕ → List Field) → count ≤ all → ((number : ℕ) → number < all → first_broken (fields number) ≡ None) → first_broken (fields_of_each count fields) ≡ None
none_below zero all fields few each = none_at_first fields
none_below (suc count) all fields few each =
    let same : suc count ≡ count + 1 = omega arith in
    ap (λ (number : ℕ). first_broken (fields_of_each number fields)) same
    ∙ none_more count fields (none_below count all fields (omega arith) each) (sym (each count (omega arith)))

pub none_in_all : (count : ℕ) (fields : ℕ → List Field) → ((number : ℕ) → number < count → first_broken (fields number) ≡ None) → first_broken (fields_of_each count fields) ≡ None
none_in_all count fields each = none_below count count fields (omega arith) each
