-- The requests that are kept in a row.
use Rattle.std.proofs.Common.{◌≡◌, ℕ, ◌+◌, ◌<◌, ◌≤◌, zero, suc, List, [], ◌∷◌, ◌++◌, length, drop, replicate, slice_get, slice_set, Option, Some, None, refl, sym, ap, subst, ◌∙◌, arith}
use Rattle.std.proofs.lemmas.List.{append_assoc, drop-append-le}
use Rattle.plant_core.specs.declared.request.Request.{Request}
use Rattle.plant_core.specs.State.{State}
use Rattle.plant_core.specs.Step.{step}
use Rattle.standby.specs.StandbyInside.{goes_on}
use Rattle.standby.specs.Standby.{Data, Window, in_row, state_after, moved_on, applies}

pub in_row-push : (places : Window) → in_row (places ++ None ∷ []) ≡ in_row places
in_row-push [] = refl
in_row-push (None ∷ places) = refl
in_row-push (Some request ∷ places) = ap (λ row. request ∷ row) (in_row-push places)

pub length-in_row : (places : Window) → length (in_row places) ≤ length places
length-in_row [] = omega arith
length-in_row (None ∷ places) = omega arith
length-in_row (Some request ∷ places) = omega (arith, length-in_row places)

-- each place of the row has a request,
pub row_has : (places : Window) (offset : ℕ) → offset < length (in_row places) → (request : Request) × (slice_get places offset ≡ Some (Some request))
row_has [] offset within = absurd (omega arith)
row_has (None ∷ places) offset within = absurd (omega arith)
row_has (Some request ∷ places) zero within = (request, refl)
row_has (Some request ∷ places) (suc offset) within = row_has places offset (omega arith)

-- and the place behind it has none.
pub row_ends : (places : Window) (request : Request) → slice_get places (length (in_row places)) ≡ Some (Some request) → ⊥
row_ends [] request e = cc
row_ends (None ∷ places) request e = cc
row_ends (Some other ∷ places) request e = row_ends places request e

-- Each request of a row, from a position on, is as it has to be at its position.
abbrev pub Along : (ℕ → Request → Type 0) → ℕ → List Request → Type 0
Along P position [] = Unit {0}
Along P position (request ∷ row) = P position request × Along P (suc position) row

pub row_along : (P : ℕ → Request → Type 0) (places : Window) (position : ℕ)
    → ((offset : ℕ) (request : Request) → slice_get places offset ≡ Some (Some request) → P (position + offset) request)
    → Along P position (in_row places)
row_along P [] position h = tt
row_along P (None ∷ places) position h = tt
row_along P (Some request ∷ places) position h =
    let here : position + 0 ≡ position = omega arith in (
      subst (λ at. P at request) here (h 0 request refl),
      row_along P places (suc position) (λ offset other e.
          let later : position + suc offset ≡ suc position + offset = omega arith in
          subst (λ at. P at other) later (h (suc offset) other e)),
    )

-- what stands at the first of these places, if there is one
abbrev first_of : Window → Option Request
first_of [] = None
first_of (place ∷ places) = place

first_of-is : (places : Window) → slice_get (places ++ None ∷ []) 0 ≡ Some (first_of places)
first_of-is [] = refl
first_of-is (place ∷ places) = refl

-- One step of many: the request is stepped, the window moves on by one place, and what was kept for the next position is
-- stepped then.
module _ (state : State) (applied : ℕ) (place : Option Request) (request : Request) where
  then_goes : (places : Window)
      → applies (record { state = state; applied = applied; window = place ∷ places }) request
      ≡ goes_on (first_of places) (record { state = (step state request).state; applied = applied + 1; window = slice_set (places ++ None ∷ []) 0 None })
  then_goes [] = refl
  then_goes (None ∷ places) = refl
  then_goes (Some other ∷ places) = λ i. record {
    state = state_after (step (step state request).state other).state (rows i);
    applied = counts i;
    window = windows i;
  }
    where
      rows : in_row places ≡ in_row (places ++ None ∷ [])
      rows = sym (in_row-push places)

      counts : applied + suc (suc (length (in_row places))) ≡ applied + 1 + suc (length (in_row (places ++ None ∷ [])))
      counts = omega (arith, ap (length {A = Request}) rows)

      moves : (n : ℕ) → n ≤ length places → drop n places ++ replicate (suc (suc n)) None ≡ drop n (places ++ None ∷ []) ++ replicate (suc n) None
      moves n within =
          sym (append_assoc (drop n places) (None ∷ []) (replicate (suc n) None))
          ∙ ap (λ front. front ++ replicate (suc n) None) (sym (drop-append-le n places (None ∷ []) within))

      windows : moved_on (suc (suc (length (in_row places)))) (place ∷ Some other ∷ places) ≡ moved_on (suc (length (in_row (places ++ None ∷ [])))) (None ∷ places ++ None ∷ [])
      windows =
          moves (length (in_row places)) (length-in_row places)
          ∙ ap (λ row. moved_on (suc (length row)) (None ∷ places ++ None ∷ [])) rows

pub applies_by_one : (old : Data) (request : Request) (next : Option Request) → 1 ≤ length old.window → slice_get (moved_on 1 old.window) 0 ≡ Some next
    → applies old request ≡ goes_on next (record { state = (step old.state request).state; applied = old.applied + 1; window = slice_set (moved_on 1 old.window) 0 None })
applies_by_one old request next some e = of old.window some e
  where
    of : (window : Window) → 1 ≤ length window → slice_get (moved_on 1 window) 0 ≡ Some next
        → applies (record { state = old.state; applied = old.applied; window = window }) request
        ≡ goes_on next (record { state = (step old.state request).state; applied = old.applied + 1; window = slice_set (moved_on 1 window) 0 None })
    of [] some e = absurd (omega arith)
    of (place ∷ places) some e =
        let both : Some (first_of places) ≡ Some next = sym (first_of-is places) ∙ e in
        let same : first_of places ≡ next = cc both in
        then_goes old.state old.applied place request places
        ∙ ap (λ first. goes_on first (record { state = (step old.state request).state; applied = old.applied + 1; window = slice_set (places ++ None ∷ []) 0 None })) same
