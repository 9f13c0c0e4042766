-- Lists that are gone through from the front, and buses by how they are found.
use Rattle.std.proofs.Common.{◌≡◌, ◌⊎◌, ℕ, ◌+◌, ◌<◌, ◌≤◌, Bool, true, false, cond, List, [], ◌∷◌, ◌++◌, map, filter, take, length, slice_get, Some, None, zero, suc, inl, inr, refl, sym, ap, ◌∙◌, arith, get_or}
use Rattle.std.proofs.lemmas.Bool.{both_ways}
use Rattle.std.proofs.lemmas.Option.{slice_get_cases, slice_get_read, slice_get_within, get_or_from_slice_get, same_Some}
use Rattle.std.proofs.lemmas.List.{take_more, append_assoc, append-nil}
use Rattle.std.proofs.lemmas.List.Elements.{Contains-append_cases, Contains-append_right, Contains-push_cases}
use Rattle.std.specs.List.{Contains}
use Rattle.plant_config.specs.declared.records.Bus.{Bus}
use Rattle.plant_config.specs.declared.records.Change.{Change}
use Rattle.plant_config.specs.Plant.{PlantData}
use Rattle.tally.specs.Touched.{with_switched, touched_by}

-- one element more
pub taken_more : {X : Type 0} (xs : List X) (i : ℕ) (x : X) → Some x ≡ slice_get xs i → take (i + 1) xs ≡ take i xs ++ x ∷ []
taken_more xs i x at =
    take_more xs i x (slice_get_within xs i x (sym at))
    ∙ ap (λ y. take i xs ++ y ∷ []) (get_or_from_slice_get xs i x x (sym at))

-- all are taken where no element is left
pub past_all : {X : Type 0} (xs : List X) (i : ℕ) → None ≡ slice_get xs i → length xs ≤ i
past_all xs i none =
    elim (slice_get_cases xs i).1 [
      | inl here ↦ cc (none, here.2)
      | inr past ↦ past.0
    ]

pub within : {X : Type 0} (xs : List X) (i : ℕ) (x : X) → Some x ≡ slice_get xs i → i < length xs
within xs i x at = slice_get_within xs i x (sym at)

-- the only element, and the first or one behind it
pub only : {X : Type 0} (x y : X) → Contains (x ∷ []) y → x ≡ y
only x y has =
    elim (Contains-push_cases [] x y has) [
      | inl none ↦ absurd (omega (arith, none.1))
      | inr same ↦ same
    ]

pub first_or_behind : {X : Type 0} (x : X) (xs : List X) (y : X) → Contains (x ∷ xs) y → (x ≡ y) ⊎ Contains xs y
first_or_behind x xs y has =
    elim (Contains-append_cases (x ∷ []) xs y has) [
      | inl here ↦ inl (only x y here)
      | inr behind ↦ inr behind
    ]

-- what a filter kept, and what it keeps
pub was_kept : (p : ℕ → Bool) (xs : List ℕ) (y : ℕ) → Contains (filter p xs) y → Contains xs y × (p y ≡ true)
was_kept p [] y has = absurd (omega (arith, has.1))
was_kept p (x ∷ xs) y has = by (was_kept p xs y) (p x) refl has
  where
    by : (Contains (filter p xs) y → Contains xs y × (p y ≡ true)) → (b : Bool) → p x ≡ b → Contains (cond b (x ∷ filter p xs) (filter p xs)) y → Contains (x ∷ xs) y × (p y ≡ true)
    by rest true passes has =
        elim (first_or_behind x (filter p xs) y has) [
          | inl same ↦ ((0, omega arith, same), ap p (sym same) ∙ passes)
          | inr behind ↦ let found = rest behind in (Contains-append_right (x ∷ []) xs y found.0, found.1)
        ]
    by rest false fails has = let found = rest has in (Contains-append_right (x ∷ []) xs y found.0, found.1)

pub is_kept : (p : ℕ → Bool) (xs : List ℕ) (y : ℕ) → Contains xs y → p y ≡ true → Contains (filter p xs) y
is_kept p [] y has passes = absurd (omega (arith, has.1))
is_kept p (x ∷ xs) y has passes = by (λ has. is_kept p xs y has passes) (p x) refl (first_or_behind x xs y has)
  where
    by : (Contains xs y → Contains (filter p xs) y) → (b : Bool) → p x ≡ b → (x ≡ y) ⊎ Contains xs y → Contains (cond b (x ∷ filter p xs) (filter p xs)) y
    by rest true here (inl same) = (0, omega arith, same)
    by rest false here (inl same) = absurd (both_ways (p x) here (ap p same ∙ passes))
    by rest true here (inr behind) = Contains-append_right (x ∷ []) (filter p xs) y (rest behind)
    by rest false here (inr behind) = rest behind

-- a bus of a list that passes a test
pub record IsBusAmong (test : Bus → Bool) (buses : List Bus) (dest : ℕ) : Type 0 where
  pub place : ℕ
  pub bus : Bus
  pub at : slice_get buses place ≡ Some bus
  pub passes : test bus ≡ true
  pub is : bus.dest ≡ dest

pub bus_among : (test : Bus → Bool) (buses : List Bus) (dest : ℕ) → Contains (map (λ (bus : Bus). bus.dest) (filter test buses)) dest → IsBusAmong test buses dest
bus_among test [] dest has = absurd (omega (arith, has.1))
bus_among test (x ∷ xs) dest has = by (bus_among test xs dest) (test x) refl has
  where
    behind : IsBusAmong test xs dest → IsBusAmong test (x ∷ xs) dest
    behind found = record { place = suc found.place; bus = found.bus; at = found.at; passes = found.passes; is = found.is }

    by : (Contains (map (λ (bus : Bus). bus.dest) (filter test xs)) dest → IsBusAmong test xs dest) → (b : Bool) → test x ≡ b → Contains (map (λ (bus : Bus). bus.dest) (cond b (x ∷ filter test xs) (filter test xs))) dest → IsBusAmong test (x ∷ xs) dest
    by rest true passes has =
        elim (first_or_behind x.dest (map (λ (bus : Bus). bus.dest) (filter test xs)) dest has) [
          | inl same ↦ record { place = 0; bus = x; at = refl; passes = passes; is = same }
          | inr more ↦ behind (rest more)
        ]
    by rest false fails has = behind (rest has)

pub has_bus : (test : Bus → Bool) (buses : List Bus) (place : ℕ) (bus : Bus) → slice_get buses place ≡ Some bus → test bus ≡ true → Contains (map (λ (bus : Bus). bus.dest) (filter test buses)) bus.dest
has_bus test [] place bus at passes = absurd (omega (arith, slice_get_within [] place bus at))
has_bus test (x ∷ xs) zero bus at passes = by (test x) refl
  where
    by : (b : Bool) → test x ≡ b → Contains (map (λ (bus : Bus). bus.dest) (cond b (x ∷ filter test xs) (filter test xs))) bus.dest
    by true here = (0, omega arith, ap (λ (bus : Bus). bus.dest) (same_Some x bus at))
    by false here = absurd (both_ways (test x) here (ap test (same_Some x bus at) ∙ passes))
has_bus test (x ∷ xs) (suc place) bus at passes = by (has_bus test xs place bus at passes) (test x)
  where
    by : Contains (map (λ (bus : Bus). bus.dest) (filter test xs)) bus.dest → (b : Bool) → Contains (map (λ (bus : Bus). bus.dest) (cond b (x ∷ filter test xs) (filter test xs))) bus.dest
    by rest true = Contains-append_right (x.dest ∷ []) (map (λ (bus : Bus). bus.dest) (filter test xs)) bus.dest rest
    by rest false = rest

-- no more buses pass than there are
pub few_pass : (test : Bus → Bool) (buses : List Bus) → length (map (λ (bus : Bus). bus.dest) (filter test buses)) ≤ length buses
few_pass test [] = omega arith
few_pass test (x ∷ xs) = by (few_pass test xs) (test x)
  where
    by : length (map (λ (bus : Bus). bus.dest) (filter test xs)) ≤ length xs → (b : Bool) → length (map (λ (bus : Bus). bus.dest) (cond b (x ∷ filter test xs) (filter test xs))) ≤ length (x ∷ xs)
    by rest true = omega arith
    by rest false = omega arith

-- what one change more touches
touched_both : (plant : PlantData) (xs ys : List Change) → touched_by plant (xs ++ ys) ≡ touched_by plant xs ++ touched_by plant ys
touched_both plant [] ys = refl
touched_both plant (x ∷ xs) ys =
    ap (λ rest. with_switched plant x.dest ++ rest) (touched_both plant xs ys)
    ∙ sym (append_assoc (with_switched plant x.dest) (touched_by plant xs) (touched_by plant ys))

pub touched_more : (plant : PlantData) (changes : List Change) (i : ℕ) (change : Change) → i < length changes → change ≡ get_or changes i change → touched_by plant (take (i + 1) changes) ≡ touched_by plant (take i changes) ++ with_switched plant change.dest
touched_more plant changes i change below at =
    ap (touched_by plant) (taken_more changes i change (sym (slice_get_read changes (length changes) i change refl below at)))
    ∙ touched_both plant (take i changes) (change ∷ [])
    ∙ ap (λ rest. touched_by plant (take i changes) ++ rest) (append-nil (with_switched plant change.dest))
