-- The parts of one list that the buses of each switch are, bus by bus.
use Rattle.std.proofs.Common.{◌≡◌, ◌≢◌, ◌⊎◌, ℕ, ◌+◌, ◌≤◌, nat_eq, Bool, true, false, cond, List, [], ◌∷◌, ◌++◌, map, filter, take, drop, length, slice_get, get_or, Option, Some, None, suc, inl, inr, refl, sym, ap, subst, ◌∙◌, arith, length-append, length-drop}
use Rattle.std.proofs.Math.Seq.{take-suc, drop-append_seam}
use Rattle.std.proofs.lemmas.Bool.{ne_eqb, cases_eq, or_parts, or_from}
use Rattle.std.proofs.lemmas.List.{take_all, take-append-le, drop-append-le, length-map, map-append}
use Rattle.std.proofs.lemmas.List.Elements.{filter-append}
use Rattle.std.proofs.lemmas.List.Folds.{list_any_more}
use Rattle.std.proofs.lemmas.List.Sums.{length-filter, count_by-le-length}
use Rattle.std.proofs.lemmas.Option.{slice_get_within, get_or_from_slice_get}
use Rattle.std.specs.List.{list_any}
use Rattle.std.specs.Option.{option_map_or, option_eq, MatchOption}
use Rattle.std.specs.Ordering.{nat_cmp}
use Rattle.std.specs.FinMap.{FinMap, empty, get, get-empty}
use Rattle.number_tables.specs.Table.{put}
use Rattle.number_tables.proofs.PutLemmas.{get-put_same, get-put_other}
use Rattle.plant_config.specs.declared.records.Bus.{Bus}
use Rattle.plant_config.specs.Plant.{PlantData}
use Rattle.mixer_effects.specs.declared.span.Span.{Span}
use Rattle.mixer_effects.specs.Buses.{switched_at}
use Rattle.mixer_effects.specs.Wiring.{part_at}
use Rattle.mixer_effects.specs.WiringInside.{is_switched_by, switched_among, IsSpanOf, AreSpansBelow}

-- a destination switches no more buses than there are
pub few_switched : (dest : ℕ) (buses : List Bus) → length (switched_among dest buses) ≤ length buses
few_switched dest buses =
    let mapped = length-map (filter (is_switched_by dest) buses) (λ (bus : Bus). bus.dest) in
    let kept = length-filter (is_switched_by dest) buses in
    let few = count_by-le-length (is_switched_by dest) buses in
    omega (arith, mapped, kept, few)

pub spans_none : (plant : PlantData) (spans : FinMap nat_cmp Span) (switched : List ℕ) → spans ≡ empty → switched ≡ [] → AreSpansBelow plant 0 spans switched
spans_none plant spans switched none nothing = record {
  have = λ dest.
      let without : get spans dest ≡ None = ap (λ (spans : FinMap nat_cmp Span). get spans dest) none ∙ get-empty nat_cmp dest in
      subst (λ (o : Option Span). MatchOption o (false ≡ false) (IsSpanOf plant switched dest)) (sym without) refl;
  few = let many = ap length nothing in omega (arith, many);
}

-- one more bus: whether a destination switches one so far
any_more : (plant : PlantData) (number dest : ℕ) (bus : Bus) → slice_get plant.buses number ≡ Some bus → list_any (is_switched_by dest) (take number plant.buses) ≡ false → is_switched_by dest bus ≡ false → list_any (is_switched_by dest) (take (number + 1) plant.buses) ≡ false
any_more plant number dest bus at none not_this =
    list_any_more (is_switched_by dest) plant.buses number bus (slice_get_within plant.buses number bus at)
    ∙ or_from (list_any (is_switched_by dest) (take number plant.buses)) (is_switched_by dest (get_or plant.buses number bus)) none
    (ap (is_switched_by dest) (get_or_from_slice_get plant.buses number bus bus at) ∙ not_this)

-- a longer list has the parts of the shorter
part_longer : (plant : PlantData) (switched more : List ℕ) (dest : ℕ) (span : Span) → IsSpanOf plant switched dest span → IsSpanOf plant (switched ++ more) dest span
part_longer plant switched more dest span part =
    let longer = length-append switched more in
    let left = length-drop span.first switched in
    record {
      within = omega (arith, part.within, longer);
      part = ap (take span.count) (drop-append-le span.first switched more (omega (arith, part.within)))
          ∙ take-append-le span.count (drop span.first switched) more (omega (arith, part.within, left))
          ∙ part.part;
    }

-- the part that is appended
part_appended : (plant : PlantData) (switched : List ℕ) (switch : ℕ) (span : Span) → span.first ≡ length switched → span.count ≡ length (switched_at plant switch) → IsSpanOf plant (switched ++ switched_at plant switch) switch span
part_appended plant switched switch span first count =
    let more = switched_at plant switch in
    let longer = length-append switched more in
    record {
      within = omega (arith, first, count, longer);
      part = ap (λ (from : ℕ). take span.count (drop from (switched ++ more))) first
          ∙ ap (take span.count) (drop-append_seam switched more)
          ∙ take_all span.count more (omega (arith, count));
    }

-- the buses of a switch are appended
pub spans_put : (plant : PlantData) (number switch : ℕ) (bus : Bus) (span : Span) (old new : FinMap nat_cmp Span) (switched longer : List ℕ) → slice_get plant.buses number ≡ Some bus → length plant.buses ≤ 1024 → bus.switch ≡ Some switch → longer ≡ switched ++ switched_at plant switch → span.first ≡ length switched → span.first + span.count ≡ length longer → new ≡ put old switch (Some span) → AreSpansBelow plant number old switched → AreSpansBelow plant (number + 1) new longer
spans_put plant number switch bus span old new switched longer at few_buses by_switch appended first last put_in below =
    let many = ap length appended ∙ length-append switched (switched_at plant switch) in
    let few = few_switched switch plant.buses in
    let count : span.count ≡ length (switched_at plant switch) = omega (arith, many, first, last) in
    record {
      have = λ dest. subst (λ (list : List ℕ). MatchOption (get new dest) (list_any (is_switched_by dest) (take (number + 1) plant.buses) ≡ false) (IsSpanOf plant list dest)) (sym appended) (by dest (cases_eq dest switch) count);
      few = omega (arith, many, few, few_buses, below.few);
    }
  where
    other : (dest : ℕ) → dest ≢ switch → (found : Option Span) → MatchOption found (list_any (is_switched_by dest) (take number plant.buses) ≡ false) (IsSpanOf plant switched dest) → MatchOption found (list_any (is_switched_by dest) (take (number + 1) plant.buses) ≡ false) (IsSpanOf plant (switched ++ switched_at plant switch) dest)
    other dest apart None so_far =
        any_more plant number dest bus at so_far (ap (λ (switch : Option ℕ). option_eq nat_eq switch (Some dest)) by_switch ∙ ne_eqb switch dest (λ e. apart (sym e)))
    other dest apart (Some found) so_far = part_longer plant switched (switched_at plant switch) dest found so_far

    by : (dest : ℕ) → (dest ≡ switch) ⊎ (dest ≢ switch) → span.count ≡ length (switched_at plant switch) → MatchOption (get new dest) (list_any (is_switched_by dest) (take (number + 1) plant.buses) ≡ false) (IsSpanOf plant (switched ++ switched_at plant switch) dest)
    by dest (inl here) count =
        let found : get new dest ≡ Some span = ap (λ (spans : FinMap nat_cmp Span). get spans dest) put_in ∙ ap (get (put old switch (Some span))) here ∙ get-put_same old switch (Some span) in
        subst (λ (o : Option Span). MatchOption o (list_any (is_switched_by dest) (take (number + 1) plant.buses) ≡ false) (IsSpanOf plant (switched ++ switched_at plant switch) dest)) (sym found)
        (subst (λ (dest : ℕ). IsSpanOf plant (switched ++ switched_at plant switch) dest span) (sym here) (part_appended plant switched switch span first count))
    by dest (inr apart) count =
        let found : get new dest ≡ get old dest = ap (λ (spans : FinMap nat_cmp Span). get spans dest) put_in ∙ get-put_other old switch (Some span) dest apart in
        subst (λ (o : Option Span). MatchOption o (list_any (is_switched_by dest) (take (number + 1) plant.buses) ≡ false) (IsSpanOf plant (switched ++ switched_at plant switch) dest)) (sym found)
        (other dest apart (get old dest) (below.have dest))

none_kept : {X : Type 0} (p : X → Bool) (xs : List X) → list_any p xs ≡ false → filter p xs ≡ []
none_kept p [] none = refl
none_kept p (x ∷ xs) none =
    let parts = or_parts (p x) (list_any p xs) none in
    ap (λ b. cond b (x ∷ filter p xs) (filter p xs)) parts.0 ∙ none_kept p xs parts.1

-- all buses: each destination has the part of the list that it switches
pub spans_all : (plant : PlantData) (number : ℕ) (spans : FinMap nat_cmp Span) (switched : List ℕ) → length plant.buses ≤ number → AreSpansBelow plant number spans switched → (dest : ℕ) → option_map_or (part_at switched) (get spans dest) [] ≡ switched_at plant dest
spans_all plant number spans switched end below dest = by (get spans dest) (below.have dest)
  where
    by : (found : Option Span) → MatchOption found (list_any (is_switched_by dest) (take number plant.buses) ≡ false) (IsSpanOf plant switched dest) → option_map_or (part_at switched) found [] ≡ switched_at plant dest
    by None none =
        let nothing = none_kept (is_switched_by dest) plant.buses (ap (list_any (is_switched_by dest)) (sym (take_all number plant.buses end)) ∙ none) in
        ap (map (λ (bus : Bus). bus.dest)) (sym nothing)
    by (Some span) part = part.part

-- one more bus of those that a destination switches, as they are appended
pub among_more : (dest number : ℕ) (buses : List Bus) (bus : Bus) → slice_get buses number ≡ Some bus → switched_among dest (take (number + 1) buses) ≡ switched_among dest (take number buses) ++ cond (is_switched_by dest bus) (bus.dest ∷ []) []
among_more dest number buses bus at =
    let next : number + 1 ≡ suc number = omega arith in
    let more : take (number + 1) buses ≡ take number buses ++ (bus ∷ []) = ap (λ (count : ℕ). take count buses) next
    ∙ take-suc buses number bus (slice_get_within buses number bus at)
    ∙ ap (λ (one : Bus). take number buses ++ (one ∷ [])) (get_or_from_slice_get buses number bus bus at) in
    ap (switched_among dest) more
    ∙ ap (map (λ (bus : Bus). bus.dest)) (filter-append (is_switched_by dest) (take number buses) (bus ∷ []))
    ∙ map-append (λ (bus : Bus). bus.dest) (filter (is_switched_by dest) (take number buses)) (filter (is_switched_by dest) (bus ∷ []))
    ∙ ap (λ (last : List ℕ). switched_among dest (take number buses) ++ last) (mapped (is_switched_by dest bus))
  where
    mapped : (b : Bool) → map (λ (bus : Bus). bus.dest) (cond b (bus ∷ []) []) ≡ cond b (bus.dest ∷ []) []
    mapped true = refl
    mapped false = refl
