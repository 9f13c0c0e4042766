-- The last display that watches a destination, and the ones before it.
use Rattle.std.proofs.Common.{◌≡◌, ◌≢◌, ℕ, ◌+◌, ◌<◌, ◌≤◌, ◌==◌, Bool, true, false, ◌&&◌, ◌||◌, nat_lt, List, [], ◌∷◌, ◌++◌, length, get_or, set, replicate, zero, suc, Option, Some, None, inl, inr, refl, sym, ap, subst, ◌∙◌, arith, eq-eqb, eqb-true, get_or-set_same, get_or-set_other}
use Rattle.std.proofs.lemmas.Bool.{cases_eq, cases_lt, ne_eqb, lt-ltb, le-ltb}
use Rattle.std.proofs.lemmas.List.{length_push, get_or_push}
use Rattle.std.specs.Option.{option_map_or}
use Rattle.plant_config.specs.declared.records.Display.{Display}
use Rattle.plant_config.specs.Plant.{PlantData}
use Rattle.due_displays.specs.Watchers.{watch_of, value_at, IsLastWatcher, AreWatchersBelow}
use Rattle.due_displays.specs.Changed.{watches}

none_at : (count n : ℕ) → value_at (replicate count None) n ≡ None
none_at zero n = refl
none_at (suc count) zero = refl
none_at (suc count) (suc n) = none_at count n

-- below the first display none watches
pub watchers_none : (displays : List Display) (count : ℕ) → AreWatchersBelow displays 0 (replicate count None) []
watchers_none displays count = record {
  many = refl;
  last = λ dest. record {
    is = λ number found. absurd (some_none number (sym (none_at count dest) ∙ found));
    last = λ number other found below same. absurd (omega (arith, below));
    none = λ other found below same. omega (arith, below);
  };
  before = λ number dest below same. absurd (omega (arith, below));
}
  where
    some_none : (number : ℕ) → (let none : Option ℕ = None in none ≡ Some number) → ⊥
    some_none number e = cc

-- the last one of one display more, which watches another destination
last_other : (displays : List Display) (dest number watch : ℕ) (found : Option ℕ) → watch_of displays number ≡ Some watch → dest ≢ watch → IsLastWatcher displays dest number found → IsLastWatcher displays dest (number + 1) found
last_other displays dest number watch found here apart was = record {
  is = λ n at.
      let one = was.is n at in
      (omega (arith, one.0), one.1);
  last = λ n other at below same. elim (cases_eq other number) [
    | inl now ↦
        let both : Some dest ≡ Some watch = sym same ∙ ap (watch_of displays) now ∙ here in
        absurd (apart cc)
    | inr before ↦ was.last n other at (omega (arith, below, before)) same
  ];
  none = λ other at below same. elim (cases_eq other number) [
    | inl now ↦
        let both : Some dest ≡ Some watch = sym same ∙ ap (watch_of displays) now ∙ here in
        apart cc
    | inr before ↦ was.none other at (omega (arith, below, before)) same
  ];
}

-- or this one
last_here : (displays : List Display) (number watch : ℕ) → watch_of displays number ≡ Some watch → IsLastWatcher displays watch (number + 1) (Some number)
last_here displays number watch here = record {
  is = λ n at.
      let same : number ≡ n = cc in
      (omega (arith, same), ap (watch_of displays) (sym same) ∙ here);
  last = λ n other at below same.
      let one : number ≡ n = cc in
      omega (arith, one, below);
  none = λ other at below same. cc;
}

pub watchers_more : (displays : List Display) (number watch : ℕ) (lasts befores : List (Option ℕ)) (last : Option ℕ) → watch_of displays number ≡ Some watch → watch < length lasts → last ≡ value_at lasts watch → AreWatchersBelow displays number lasts befores →
    AreWatchersBelow displays (number + 1) (set lasts watch (Some number)) (befores ++ last ∷ [])
watchers_more displays number watch lasts befores last here within is was = record {
  many = length_push befores last ∙ ap (λ n. n + 1) was.many;
  last = λ dest. elim (cases_eq dest watch) [
    | inl same ↦
        rw same (subst (IsLastWatcher displays watch (number + 1)) (sym (get_or-set_same lasts watch (Some number) None within)) (last_here displays number watch here))
    | inr apart ↦
        subst (IsLastWatcher displays dest (number + 1)) (sym (get_or-set_other lasts watch dest (Some number) None apart)) (last_other displays dest number watch (value_at lasts dest) here apart (was.last dest))
  ];
  before = λ n dest below same. elim (cases_eq n number) [
    | inl now ↦
        let both : Some dest ≡ Some watch = sym same ∙ ap (watch_of displays) now ∙ here in
        let one : dest ≡ watch = cc in
        let at : value_at (befores ++ last ∷ []) n ≡ value_at lasts watch = get_or_push befores last None n (was.many ∙ sym now) ∙ is in
        subst (IsLastWatcher displays dest n) (sym at) (rw (one, now) (was.last watch))
    | inr before ↦
        let earlier : n < number = omega (arith, below, before) in
        subst (IsLastWatcher displays dest n) (sym (get_or_earlier befores (last ∷ []) n (omega (arith, earlier, was.many)))) (was.before n dest earlier same)
  ];
}
  where
    get_or_earlier : (xs ys : List (Option ℕ)) (n : ℕ) → n < length xs → get_or (xs ++ ys) n None ≡ get_or xs n None
    get_or_earlier [] ys n below = absurd (omega (arith, below))
    get_or_earlier (x ∷ xs) ys zero below = refl
    get_or_earlier (x ∷ xs) ys (suc n) below = get_or_earlier xs ys n (omega (arith, below))

-- whether a display comes behind the one that was found, and so was passed
abbrev pub is_passed : Option ℕ → ℕ → Bool
is_passed found display = option_map_or (λ at. nat_lt at display) found true

-- the displays that watch a destination and were passed
abbrev pub passed : PlantData → ℕ → Option ℕ → ℕ → Bool
passed plant dest found display = watches plant dest display && is_passed found display

watches-some : (plant : PlantData) (dest display : ℕ) → watches plant dest display ≡ true → watch_of plant.displays display ≡ Some dest
watches-some plant dest display is = by (watch_of plant.displays display) is
  where
    by : (watch : Option ℕ) → option_map_or (λ at. at == dest) watch false ≡ true → watch ≡ Some dest
    by None is = cc
    by (Some at) is = ap Some (eqb-true at dest is)

some-watches : (plant : PlantData) (dest display : ℕ) → watch_of plant.displays display ≡ Some dest → watches plant dest display ≡ true
some-watches plant dest display is = ap (λ watch. option_map_or (λ at. at == dest) watch false) is ∙ eq-eqb dest dest refl

-- at first none was passed
pub passed_none : (plant : PlantData) (dest : ℕ) (found : Option ℕ) → IsLastWatcher plant.displays dest (length plant.displays) found → (display : ℕ) → display < length plant.displays → passed plant dest found display ≡ false
passed_none plant dest found is display below = by (watches plant dest display) refl found refl
  where
    by : (b : Bool) → watches plant dest display ≡ b → (at : Option ℕ) → found ≡ at → (b && is_passed at display) ≡ false
    by false off at found_is = refl
    by true holds None found_is = absurd (is.none display found_is below (watches-some plant dest display holds))
    by true holds (Some at) found_is = le-ltb at display (is.last at display found_is below (watches-some plant dest display holds))

-- then this one is passed too
pub passed_more : (plant : PlantData) (dest at : ℕ) (next : Option ℕ) → watch_of plant.displays at ≡ Some dest → IsLastWatcher plant.displays dest at next →
    (display : ℕ) → passed plant dest next display ≡ ((display == at) || passed plant dest (Some at) display)
passed_more plant dest at next here is display = elim (cases_eq display at) [
  | inl same ↦
      let holds : watches plant dest display ≡ true = some-watches plant dest display (ap (watch_of plant.displays) same ∙ here) in
      ap (λ b. b && is_passed next display) holds ∙ behind next refl (omega (arith, same)) ∙ ap (λ b. b || passed plant dest (Some at) display) (sym (eq-eqb display at same))
  | inr apart ↦
      by (watches plant dest display) refl apart ∙ ap (λ b. b || passed plant dest (Some at) display) (sym (ne_eqb display at apart))
]
  where
    behind : (found : Option ℕ) → next ≡ found → at ≤ display → is_passed found display ≡ true
    behind None e le = refl
    behind (Some n) e le = lt-ltb n display (omega (arith, le, (is.is n e).0))

    not_yet : (found : Option ℕ) → next ≡ found → display < at → watches plant dest display ≡ true → is_passed found display ≡ false
    not_yet None e below holds = absurd (is.none display e below (watches-some plant dest display holds))
    not_yet (Some n) e below holds = le-ltb n display (is.last n display e below (watches-some plant dest display holds))

    by : (b : Bool) → watches plant dest display ≡ b → display ≢ at → (b && is_passed next display) ≡ (b && nat_lt at display)
    by false off apart = refl
    by true holds apart = elim (cases_lt at display) [
      | inl after ↦ behind next refl (omega (arith, after)) ∙ sym (lt-ltb at display after)
      | inr before ↦ not_yet next refl (omega (arith, before, apart)) holds ∙ sym (le-ltb at display before)
    ]

pub watch_within : (displays : List Display) (number dest : ℕ) → watch_of displays number ≡ Some dest → number < length displays
watch_within [] number dest is = cc
watch_within (first ∷ displays) zero dest is = omega arith
watch_within (first ∷ displays) (suc number) dest is = omega (arith, watch_within displays number dest is)

pub smaller_next : (displays : List Display) (dest at : ℕ) (next : Option ℕ) → IsLastWatcher displays dest at next → option_map_or (λ number. suc number) next 0 < suc at
smaller_next displays dest at next is = by next refl
  where
    by : (found : Option ℕ) → next ≡ found → option_map_or (λ number. suc number) found 0 < suc at
    by None e = omega arith
    by (Some number) e = omega (arith, (is.is number e).0)
