-- What a standby keeps for which position, and that what is true of every standby stays so.
use Rattle.std.proofs.Common.{◌≡◌, ℕ, ◌+◌, ◌-◌, ◌<◌, ◌≤◌, ◌⊎◌, ◌∷◌, length, drop, slice_get, slice_set, Option, Some, None, IfSome, inl, inr, sym, ap, subst, ◌∙◌, arith}
use Rattle.std.proofs.lemmas.List.{length-set, length-replicate}
use Rattle.plant_config.specs.Plant.{PlantData}
use Rattle.plant_core.specs.declared.request.Request.{Request}
use Rattle.plant_core.specs.State.{State}
use Rattle.plant_core.specs.Step.{step}
use Rattle.standby.specs.Standby.{Data, Window, IsKeptAt, start, keeps, in_row, moved_on, applies}
use Rattle.standby.specs.StandbyInside.{position_limit, most_places, MayCome, IsStandby, MovesOn, IsUnderWay, goes_on}
use Rattle.standby.proofs.RowLemmas.{applies_by_one}
use Rattle.standby.proofs.WindowLemmas.{set_cases, get-set_same, get-set_other, none_kept, first-replicate, kept_before, length-moved}

-- what is kept once a request is applied was kept before
pub kept_applies : (old : Data) (request : Request) (position : ℕ) (other : Request) → IsKeptAt (applies old request) position other → IsKeptAt old position other
kept_applies old request position other is = record {
  offset = length (request ∷ in_row (drop 1 old.window)) + is.offset;
  position_is = omega (arith, is.position_is);
  kept = kept_before (length (request ∷ in_row (drop 1 old.window))) is.offset old.window other is.kept;
}

-- what is kept once a request is kept is that request, or was kept before
pub kept_keeps : (old : Data) (at : ℕ) (request : Request) (position : ℕ) (other : Request) → old.applied ≤ at → IsKeptAt (keeps old at request) position other → ((position ≡ at) × (other ≡ request)) ⊎ IsKeptAt old position other
kept_keeps old at request position other below is = elim (set_cases old.window (at - old.applied) is.offset (Some request) (Some other) is.kept) [
  | inl here ↦
      let same : other ≡ request = cc here.1 in
      inl (omega (arith, is.position_is, here.0), same)
  | inr there ↦ inr (record { offset = is.offset; position_is = is.position_is; kept = there })
]

-- a new standby keeps nothing
pub kept_start : (plant : PlantData) (places position : ℕ) (request : Request) → IsKeptAt (start plant places) position request → ⊥
kept_start plant places position request is = none_kept places is.offset request is.kept

-- A new standby is one.
pub IsStandby-start : (plant : PlantData) (places : ℕ) → 1 ≤ places → places ≤ most_places → IsStandby (start plant places)
IsStandby-start plant places some most = record {
  some = omega (arith, length-replicate {A = Option Request} places None);
  most = omega (arith, length-replicate {A = Option Request} places None);
  first = first-replicate places some;
  applied = omega arith;
  kept = λ position request is. absurd (kept_start plant places position request is);
}

pub IsStandby-keeps : (old : Data) (at : ℕ) (request : Request) → IsStandby old → old.applied < at → MayCome old.state.plant at request → IsStandby (keeps old at request)
IsStandby-keeps old at request is above may = record {
  some = omega (arith, is.some, length-set old.window (at - old.applied) (Some request));
  most = omega (arith, is.most, length-set old.window (at - old.applied) (Some request));
  first = get-first;
  applied = is.applied;
  kept = λ position other kept. elim (kept_keeps old at request position other (omega arith) kept) [
    | inl here ↦ rw (here.0, here.1) may
    | inr there ↦ is.kept position other there
  ];
}
  where
    get-first : slice_get (slice_set old.window (at - old.applied) (Some request)) 0 ≡ Some None
    get-first = get-set_other old.window (at - old.applied) 0 (Some request) (λ e. absurd (omega (arith, above))) ∙ is.first

-- what the window of a standby keeps that has moved on it kept before
pub kept_moves : (old : Data) (state : State) (position : ℕ) (request : Request) → IsKeptAt (record { state = state; applied = old.applied + 1; window = slice_set (moved_on 1 old.window) 0 None }) position request → IsKeptAt old position request
kept_moves old state position request is = elim (set_cases (moved_on 1 old.window) 0 is.offset None (Some request) is.kept) [
  | inl here ↦ cc here.1
  | inr there ↦ record {
    offset = 1 + is.offset;
    position_is = omega (arith, is.position_is);
    kept = kept_before 1 is.offset old.window request there;
  }
]

pub IsStandby-moves : (old : Data) → IsStandby old → old.applied < position_limit → IsStandby (record { state = old.state; applied = old.applied + 1; window = slice_set (moved_on 1 old.window) 0 None })
IsStandby-moves old is below = record {
  some = omega (arith, is.some, long);
  most = omega (arith, is.most, long);
  first = get-set_same (moved_on 1 old.window) 0 None (omega (arith, is.some, length-moved 1 old.window is.some));
  applied = omega arith;
  kept = λ position request kept. is.kept position request (kept_moves old old.state position request kept);
}
  where
    long : length (slice_set (moved_on 1 old.window) 0 None) ≡ length old.window
    long = length-set (moved_on 1 old.window) 0 None ∙ length-moved 1 old.window is.some

-- one step of a row
pub under_way : (initial : Data) (request asked : Request) (old stepped new : Data) (next : Option Request)
    → IsUnderWay initial request (Some asked) old → stepped ≡ record old { state = (step old.state asked).state } → stepped.state.plant ≡ old.state.plant
    → MovesOn stepped next new → IsUnderWay initial request next new
under_way initial request asked old stepped new next is same plant moves = record {
  may = subst (λ plant. IfSome next (MayCome plant new.applied)) (sym (ap (λ (state : State). state.plant) moves.state)) moves.may;
  same = sym (by_one ∙ ap (goes_on next) made) ∙ is.same;
  plant = ap (λ (state : State). state.plant) moves.state ∙ plant ∙ is.plant;
}
  where
    state : stepped.state ≡ (step old.state asked).state
    state = ap (λ (standby : Data). standby.state) same

    applied : stepped.applied ≡ old.applied
    applied = ap (λ (standby : Data). standby.applied) same

    window : stepped.window ≡ old.window
    window = ap (λ (standby : Data). standby.window) same

    by_one : applies old asked ≡ goes_on next (record { state = (step old.state asked).state; applied = old.applied + 1; window = slice_set (moved_on 1 old.window) 0 None })
    by_one = applies_by_one old asked next (subst (λ (places : Window). 1 ≤ length places) window moves.some)
        (subst (λ (places : Window). slice_get (moved_on 1 places) 0 ≡ Some next) window moves.next_is)

    states : (step old.state asked).state ≡ new.state
    states = sym state ∙ sym moves.state

    counts : old.applied + 1 ≡ new.applied
    counts = omega (arith, applied, moves.applied)

    windows : slice_set (moved_on 1 old.window) 0 None ≡ new.window
    windows = ap (λ (places : Window). slice_set (moved_on 1 places) 0 None) (sym window) ∙ sym moves.window

    made : record { state = (step old.state asked).state; applied = old.applied + 1; window = slice_set (moved_on 1 old.window) 0 None } ≡ new
    made = λ i. record { state = states i; applied = counts i; window = windows i }

-- what comes next may come
pub next_may : (old : Data) (next : Option Request) → IsStandby old → slice_get (moved_on 1 old.window) 0 ≡ Some next → IfSome next (MayCome old.state.plant (old.applied + 1))
next_may old None is e = tt
next_may old (Some request) is e = is.kept (old.applied + 1) request (record {
  offset = 1 + 0;
  position_is = omega arith;
  kept = kept_before 1 0 old.window request e;
})
