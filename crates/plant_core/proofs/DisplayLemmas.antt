-- How displays that differ are shown their values, one after the other.
use Rattle.std.proofs.Common.{◌≡◌, ◌≢◌, ℕ, ◌+◌, ◌-◌, ◌<◌, ◌≤◌, nat_eq, Bool, true, false, cond, not, List, [], ◌∷◌, ◌++◌, length, take, drop, All, Some, None, suc, zero, refl, sym, ap, subst, ◌∙◌, append_assoc, zero-add, arith}
use Rattle.std.specs.Prelude.{◌==◌, ◌||◌, ◌↔◌, IsTrue}
use Rattle.std.specs.List.{AllByRecursion, IsDistinct, list_any, list_all, range_with_len}
use Rattle.std.specs.Option.{option_eq}
use Rattle.std.proofs.lemmas.Bool.{both_ways, eq-eqb}
use Rattle.std.proofs.lemmas.List.{get_or-set_other, length_push, length-set, map-id}
use Rattle.std.proofs.lemmas.List.Sums.{AllPass-from_list_all, list_all-from_AllPass}
use Rattle.std.proofs.lemmas.List.Folds.{list_any-append, list_any_at}
use Rattle.std.proofs.lemmas.List.FromFn.{length-range_with_len, get_or-range_with_len, map-range_with_len_more}
use Rattle.std.proofs.lemmas.Map.Keys.{IsDistinct-head, IsDistinct-tail}
use Rattle.plant_config.specs.Plant.{PlantData}
use Rattle.plant_config.specs.IsPlant.{IsPlant}
use Rattle.crosspoint_state.specs.Crosspoints.{Crosspoints}
use Rattle.change_boards.specs.declared.value.Value.{Value}
use Rattle.change_boards.specs.Board.{Board}
use Rattle.change_boards.specs.Shown.{Shown, is_same, differs, with_shown}
use Rattle.plant_core.specs.declared.answer.Answer.{Answer}
use Rattle.plant_core.specs.declared.answer.Answer.TheVariants.{Lamp}
use Rattle.plant_core.specs.State.{AreCrosspoints}
use Rattle.plant_core.specs.Displays.{differing_of, shown_all, lamps_of}
use Rattle.plant_core.specs.DisplaysInside.{CarrySources}
use Rattle.plant_core.proofs.Validity.{IsCrosspoint-below}

-- each destination that isn't parked carries a source of the plant
pub carried : (plant : PlantData) (crosspoints : Crosspoints) → IsPlant plant → AreCrosspoints plant crosspoints → CarrySources plant crosspoints
carried plant crosspoints is are dest spot here = IsCrosspoint-below plant dest spot.source is (are dest spot here)

-- to show one display doesn't change whether others differ
pub differing-others : (values : ℕ → Value) (shown : Shown) (display : ℕ) (value : Value) (others : List ℕ) → AllByRecursion (λ other. (display == other) ≡ false) others →
    differing_of values (with_shown shown display value) others ≡ differing_of values shown others
differing-others values shown display value [] apart = refl
differing-others values shown display value (other ∷ others) apart =
    let off : other ≢ display = λ same. both_ways (display == other) apart.0 (eq-eqb display other (sym same)) in
    let here = ap (λ o. not (option_eq is_same o (Some (values other)))) (get_or-set_other shown display other (Some value) None off) in
    let rest = differing-others values shown display value others apart.1 in
    λ i. cond (here i) (other ∷ rest i) (rest i)

-- a display isn't among those behind it
pub apart-behind : (displays : List ℕ) (place display : ℕ) (rest : List ℕ) → IsDistinct nat_eq displays → drop place displays ≡ display ∷ rest → AllByRecursion (λ other. (display == other) ≡ false) rest
apart-behind displays place display rest once here = IsDistinct-head nat_eq display rest (subst (IsDistinct nat_eq) here (go displays place once))
  where
    go : (list : List ℕ) (n : ℕ) → IsDistinct nat_eq list → IsDistinct nat_eq (drop n list)
    go list zero once = once
    go [] (suc n) once = once
    go (first ∷ list) (suc n) once = go list n (IsDistinct-tail nat_eq first list once)

-- so many of these displays that differ
abbrev pub left_of : (ℕ → Value) → ℕ → Shown → List ℕ → List ℕ
left_of values count shown displays = take count (differing_of values shown displays)

-- What is left to be shown and told leads to the same, one display further.
pub record Leads (values : ℕ → Value) (shown new_shown : Shown) (items new_items : List Answer) (before rest : List ℕ) : Type 0 where
  pub lit : shown_all values (left_of values (64 - length new_items) new_shown rest) new_shown ≡ shown_all values (left_of values (64 - length items) shown before) shown
  pub told : new_items ++ lamps_of values (left_of values (64 - length new_items) new_shown rest) ≡ items ++ lamps_of values (left_of values (64 - length items) shown before)
  pub few : length new_items ≤ 64

Leads-told : (values : ℕ → Value) (shown : Shown) (items : List Answer) (display : ℕ) (rest : List ℕ) → length items < 64 → AllByRecursion (λ other. (display == other) ≡ false) rest → differs shown display (values display) ≡ true →
    Leads values shown (with_shown shown display (values display)) items (items ++ Lamp display (values display) ∷ []) (display ∷ rest) rest
Leads-told values shown items display rest few apart news =
    let value : Value = values display in
    let after : Shown = with_shown shown display value in
    let more : List Answer = items ++ Lamp display value ∷ [] in
    let count : length more ≡ length items + 1 = length_push items (Lamp display value) in
    let room : 64 - length items ≡ suc (64 - length more) = omega (arith, few, count) in
    let first : left_of values (64 - length items) shown (display ∷ rest) ≡ display ∷ left_of values (64 - length more) after rest =
    ap (λ n. left_of values n shown (display ∷ rest)) room
    ∙ ap (λ b. take (suc (64 - length more)) (cond b (display ∷ differing_of values shown rest) (differing_of values shown rest))) news
    ∙ ap (λ list. display ∷ take (64 - length more) list) (sym (differing-others values shown display value rest apart)) in
    record {
      lit = sym (ap (λ list. shown_all values list shown) first);
      told = append_assoc items (Lamp display value ∷ []) (lamps_of values (left_of values (64 - length more) after rest)) ∙ sym (ap (λ list. items ++ lamps_of values list) first);
      few = omega (arith, few, count);
    }

Leads-passed : (values : ℕ → Value) (shown : Shown) (items : List Answer) (display : ℕ) (rest : List ℕ) → length items < 64 → differs shown display (values display) ≡ false →
    Leads values shown shown items items (display ∷ rest) rest
Leads-passed values shown items display rest few old =
    let same : left_of values (64 - length items) shown (display ∷ rest) ≡ left_of values (64 - length items) shown rest =
    ap (λ b. take (64 - length items) (cond b (display ∷ differing_of values shown rest) (differing_of values shown rest))) old in
    record {
      lit = sym (ap (λ list. shown_all values list shown) same);
      told = sym (ap (λ list. items ++ lamps_of values list) same);
      few = omega (arith, few);
    }

pub Leads-one : (values : ℕ → Value) (shown : Shown) (items : List Answer) (display : ℕ) (rest : List ℕ) (new_shown : Shown) (new_items : List Answer) → length items < 64 → AllByRecursion (λ other. (display == other) ≡ false) rest →
    new_shown ≡ cond (differs shown display (values display)) (with_shown shown display (values display)) shown → new_items ≡ cond (differs shown display (values display)) (items ++ Lamp display (values display) ∷ []) items →
    Leads values shown new_shown items new_items (display ∷ rest) rest
Leads-one values shown items display rest new_shown new_items few apart now told =
    let both : Leads values shown (cond (differs shown display (values display)) (with_shown shown display (values display)) shown) items (cond (differs shown display (values display)) (items ++ Lamp display (values display) ∷ []) items) (display ∷ rest) rest =
    elim (differs shown display (values display)) as (λ b. differs shown display (values display) ≡ b → Leads values shown (cond b (with_shown shown display (values display)) shown) items (cond b (items ++ Lamp display (values display) ∷ []) items) (display ∷ rest) rest) [
      | true ↦ λ news. Leads-told values shown items display rest few apart news
      | false ↦ λ old. Leads-passed values shown items display rest few old
    ] refl in
    subst (λ s. Leads values shown s items new_items (display ∷ rest) rest) (sym now)
    (subst (λ list. Leads values shown (cond (differs shown display (values display)) (with_shown shown display (values display)) shown) items list (display ∷ rest) rest) (sym told) both)

pub length-one : (shown new_shown : Shown) (display : ℕ) (value : Value) → new_shown ≡ cond (differs shown display value) (with_shown shown display value) shown → length new_shown ≡ length shown
length-one shown new_shown display value now =
    ap length now ∙ elim (differs shown display value) as (λ b. length (cond b (with_shown shown display value) shown) ≡ length shown) [ true ↦ length-set shown display (Some value) | false ↦ refl ]

-- that all have left is told by a test
pub left-is : (all_left : Bool) (boards : List Board) → (IsTrue all_left ↔ All (λ board. IsTrue board.left) boards) → all_left ≡ list_all (λ (board : Board). board.left) boards
left-is all_left boards says =
    elim (list_all (λ (board : Board). board.left) boards) as (λ b. list_all (λ (board : Board). board.left) boards ≡ b → all_left ≡ b) [
      | true ↦ λ all. says.1 (AllPass-from_list_all (λ (board : Board). board.left) boards all)
      | false ↦ λ some. not_true all_left (λ all. both_ways (list_all (λ (board : Board). board.left) boards) some (list_all-from_AllPass (λ (board : Board). board.left) boards (says.0 all)))
    ] refl
  where
    not_true : (b : Bool) → (b ≡ true → ⊥) → b ≡ false
    not_true true wrong = absurd (wrong refl)
    not_true false _ = refl

-- one display more of which none differs
pub none_more : (test : ℕ → Bool) (number : ℕ) → list_any test (range_with_len 0 number) ≡ false → test number ≡ false → list_any test (range_with_len 0 (number + 1)) ≡ false
none_more test number none here =
    ap (list_any test) (sym (map-id (range_with_len 0 (number + 1))) ∙ map-range_with_len_more (λ (n : ℕ). n) 0 number number (omega arith) ∙ ap (λ list. list ++ number ∷ []) (map-id (range_with_len 0 number)))
    ∙ list_any-append test (range_with_len 0 number) (number ∷ [])
    ∙ ap (λ b. b || (test number || false)) none
    ∙ ap (λ b. b || false) here

-- one differs
pub some_at : (test : ℕ → Bool) (number count : ℕ) → number < count → test number ≡ true → list_any test (range_with_len 0 count) ≡ true
some_at test number count below here =
    list_any_at test (range_with_len 0 count) number 0 (omega (arith, below, length-range_with_len 0 count)) (ap test (get_or-range_with_len 0 count number 0 below ∙ zero-add number) ∙ here)
