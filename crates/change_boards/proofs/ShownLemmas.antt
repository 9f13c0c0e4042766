-- What a display was last shown, after one was shown a value and after some were forgotten.
use Rattle.std.proofs.Common.{◌≡◌, ℕ, ◌<◌, ◌||◌, nat_eq, Bool, true, false, not, List, [], ◌∷◌, length, set, Option, Some, None, inl, inr, refl, ap, ◌∙◌, arith, eq-eqb, eqb-true, get_or-set_same, get_or-set_other}
use Rattle.std.proofs.lemmas.Bool.{cases_eq, cases_lt, both_ways, or_cases}
use Rattle.std.proofs.lemmas.List.{get_or_past}
use Rattle.std.proofs.Math.ListN.{length-set}
use Rattle.std.specs.Option.{option_eq}
use Rattle.change_boards.specs.declared.value.Value.{Value}
use Rattle.change_boards.specs.Shown.{Shown, is_same, last, with_shown, with_forgotten}
use Rattle.change_boards.specs.ShownLaws.{is_in_list, ShowsOne, Forgets}

same_value : (value : Value) → is_same value value ≡ true
same_value value = go value.source value.air value.preview
  where
    go : (source : Option ℕ) (air preview : Bool) → is_same (record { source = source; air = air; preview = preview }) (record { source = source; air = air; preview = preview }) ≡ true
    go None true true = refl
    go None true false = refl
    go None false true = refl
    go None false false = refl
    go (Some source) true true = rw (eq-eqb source source refl) refl
    go (Some source) true false = rw (eq-eqb source source refl) refl
    go (Some source) false true = rw (eq-eqb source source refl) refl
    go (Some source) false false = rw (eq-eqb source source refl) refl

pub with_shown-ShowsOne : (shown : Shown) (display : ℕ) (value : Value) → display < length shown → ShowsOne shown (with_shown shown display value) display value
with_shown-ShowsOne shown display value within =
    let now : last (with_shown shown display value) display ≡ Some value = get_or-set_same shown display (Some value) None within in
    record {
      count = length-set shown display (Some value);
      shown = now;
      same = ap (λ last. not (option_eq is_same last (Some value))) now ∙ ap not (same_value value);
      others = λ other apart. get_or-set_other shown display other (Some value) None apart;
    }

-- one display is forgotten
forgotten_one : (shown : Shown) (display : ℕ) → last (set shown display None) display ≡ None
forgotten_one shown display = elim (cases_lt display (length shown)) [
  | inl within ↦ get_or-set_same shown display None None within
  | inr past ↦ get_or_past (set shown display None) display None (omega (arith, past, length-set {A = Option Value} shown display None))
]

-- what none was last shown stays none
still_none : (displays : List ℕ) (shown : Shown) (display : ℕ) → last shown display ≡ None → last (with_forgotten shown displays) display ≡ None
still_none [] shown display none = none
still_none (first ∷ displays) shown display none =
    still_none displays (set shown first None) display (elim (cases_eq display first) [
      | inl here ↦ ap (last (set shown first None)) here ∙ forgotten_one shown first
      | inr apart ↦ get_or-set_other shown first display None None apart ∙ none
    ])

forgotten : (displays : List ℕ) (shown : Shown) (display : ℕ) → is_in_list displays display ≡ true → last (with_forgotten shown displays) display ≡ None
forgotten [] shown display among = cc
forgotten (first ∷ displays) shown display among =
    elim (or_cases (nat_eq display first) (is_in_list displays display) among) [
      | inl here ↦ still_none displays (set shown first None) display (ap (last (set shown first None)) (eqb-true display first here) ∙ forgotten_one shown first)
      | inr behind ↦ forgotten displays (set shown first None) display behind
    ]

not_forgotten : (displays : List ℕ) (shown : Shown) (other : ℕ) → is_in_list displays other ≡ false → last (with_forgotten shown displays) other ≡ last shown other
not_forgotten [] shown other apart = refl
not_forgotten (first ∷ displays) shown other apart =
    go (nat_eq other first) refl (is_in_list displays other) refl apart (not_forgotten displays (set shown first None) other)
  where
    go : (a : Bool) → nat_eq other first ≡ a → (b : Bool) → is_in_list displays other ≡ b → (a || b) ≡ false →
        (is_in_list displays other ≡ false → last (with_forgotten (set shown first None) displays) other ≡ last (set shown first None) other) →
        last (with_forgotten (set shown first None) displays) other ≡ last shown other
    go true here b there none later = cc
    go false here true there none later = cc
    go false here false there none later =
        later there ∙ get_or-set_other shown first other None None (λ same. both_ways (nat_eq other first) here (eq-eqb other first same))

as_many : (displays : List ℕ) (shown : Shown) → length (with_forgotten shown displays) ≡ length shown
as_many [] shown = refl
as_many (first ∷ displays) shown = as_many displays (set shown first None) ∙ length-set shown first None

pub with_forgotten-Forgets : (shown : Shown) (displays : List ℕ) → Forgets shown (with_forgotten shown displays) displays
with_forgotten-Forgets shown displays = record {
  count = as_many displays shown;
  none = forgotten displays shown;
  again = λ display value among. ap (λ last. not (option_eq is_same last (Some value))) (forgotten displays shown display among);
  others = not_forgotten displays shown;
}
