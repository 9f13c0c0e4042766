-- What the code of a standby makes of it, by how far a position is from the first one of the window.
use Rattle.std.proofs.Common.{◌≡◌, ◌≢◌, ℕ, ◌+◌, ◌-◌, ◌<◌, ◌≤◌, length, replicate, slice_get, slice_set, count_by, Option, Some, None, is_some, refl, sym, ap, subst, ◌∙◌, arith}
use Rattle.std.proofs.lemmas.List.{length-set}
use Rattle.plant_config.specs.Plant.{PlantData}
use Rattle.plant_core.specs.declared.request.Request.{Request}
use Rattle.plant_core.specs.State as states
use Rattle.plant_core.specs.State.{State}
use Rattle.standby.specs.declared.took.Took.TheVariants.{Differs, Kept}
use Rattle.standby.specs.Standby.{Data, Window, IsKeptAt, keeps, moved_on}
use Rattle.standby.specs.StandbyInside.{position_limit, most_places, count_at, IsWindow, MayCome, IsStandby, MovesOn}
use Rattle.standby.specs.Table.{Takes}
use Rattle.standby.proofs.WindowLemmas.{set_same, count-set}
use Rattle.standby.proofs.StandbyLemmas.{IsStandby-start, IsStandby-keeps, IsStandby-moves, next_may}

-- a window that keeps one more
pub IsWindow-keeps : (kept : ℕ) (window : Window) (offset : ℕ) (request : Request) → IsWindow kept window → slice_get window offset ≡ Some None → IsWindow (kept + 1) (slice_set window offset (Some request))
IsWindow-keeps kept window offset request is empty = record {
  counted = ap (λ n. n + 1) is.counted ∙ sym (count-set window offset request empty);
  few = omega (arith, is.few, length-set window offset (Some request));
}

-- a standby as it is made
pub started : (plant : PlantData) (places : ℕ) (state : State) (window : Window) → 1 ≤ places → places ≤ most_places → state ≡ states.start plant → window ≡ replicate places None
    → IsStandby (record { state = state; applied = 0; window = window })
started plant places state window some most state_is window_is =
    subst (λ (at : State). IsStandby (record { state = at; applied = 0; window = window })) (sym state_is)
    (subst (λ (at : Window). IsStandby (record { state = states.start plant; applied = 0; window = at })) (sym window_is) (IsStandby-start plant places some most))

-- a standby whose plant was stepped
pub stepped : (old : Data) (state : State) → IsStandby old → state.plant ≡ old.state.plant → IsStandby (record { state = state; applied = old.applied; window = old.window })
stepped old state is same = record {
  some = is.some;
  most = is.most;
  first = is.first;
  applied = is.applied;
  kept = λ position other kept.
      subst (λ plant. MayCome plant position other) (sym same) (is.kept position other (record { offset = kept.offset; position_is = kept.position_is; kept = kept.kept }));
}

-- a request is kept at a place of the window
abbrev pub with_kept : Data → ℕ → Request → Data
with_kept old offset request = record { state = old.state; applied = old.applied; window = slice_set old.window offset (Some request) }

keeps-at : (old : Data) (offset : ℕ) (request : Request) → keeps old (old.applied + offset) request ≡ with_kept old offset request
keeps-at old offset request =
    let same : old.applied + offset - old.applied ≡ offset = omega arith in
    ap (λ n. with_kept old n request) same

kept_place : (old : Data) (offset : ℕ) (other : Request) → IsKeptAt old (old.applied + offset) other → slice_get old.window offset ≡ Some (Some other)
kept_place old offset other is =
    let same : offset ≡ is.offset = omega (arith, is.position_is) in
    ap (slice_get old.window) same ∙ is.kept

pub kept-is : (old : Data) (offset : ℕ) (request : Request) → IsStandby old → 0 < offset → MayCome old.state.plant (old.applied + offset) request → IsStandby (with_kept old offset request)
kept-is old offset request is ahead may =
    subst IsStandby (keeps-at old offset request) (IsStandby-keeps old (old.applied + offset) request is (omega (arith, ahead)) may)

-- a place is empty, or keeps one request
nothing_kept : (place : Option (Option Request)) (other : Request) → place ≡ Some None → place ≡ Some (Some other) → ⊥
nothing_kept place other empty kept = cc (empty, kept)

one_kept : (place : Option (Option Request)) (request other : Request) → place ≡ Some (Some request) → place ≡ Some (Some other) → other ≡ request
one_kept place request other kept also = cc (kept, also)

-- The place is empty: the request is kept there.
pub takes_kept : (old : Data) (offset : ℕ) (request : Request) → 0 < offset → offset < length old.window → slice_get old.window offset ≡ Some None
    → Takes old (old.applied + offset) request Kept (with_kept old offset request)
takes_kept old offset request ahead within empty = record {
  may = record {
    within = omega (arith, within);
    alone = λ other is. absurd (nothing_kept (slice_get old.window offset) other empty (kept_place old offset other is));
  };
  above = omega (arith, ahead);
  is = sym (keeps-at old offset request);
}

-- The same is kept there.
pub takes_same : (old : Data) (offset : ℕ) (request : Request) → 0 < offset → offset < length old.window → slice_get old.window offset ≡ Some (Some request)
    → Takes old (old.applied + offset) request Kept old
takes_same old offset request ahead within kept = record {
  may = record {
    within = omega (arith, within);
    alone = λ other is. one_kept (slice_get old.window offset) request other kept (kept_place old offset other is);
  };
  above = omega (arith, ahead);
  is = sym (keeps-at old offset request ∙ ap (λ (window : Window). record { state = old.state; applied = old.applied; window = window }) (set_same old.window offset (Some request) kept));
}

-- Another is kept there.
pub takes_different : (old : Data) (offset : ℕ) (request other : Request) → slice_get old.window offset ≡ Some (Some other) → other ≢ request
    → Takes old (old.applied + offset) request Differs old
takes_different old offset request other kept another = record {
  other = other;
  kept = record { offset = offset; position_is = refl; kept = kept };
  another = another;
  unchanged = refl;
}

-- The window of a standby has moved on.
pub moved-is : (old : Data) (window : Window) → IsStandby old → old.applied < position_limit → window ≡ slice_set (moved_on 1 old.window) 0 None
    → IsStandby (record { state = old.state; applied = old.applied + 1; window = window })
moved-is old window is below window_is =
    subst (λ (at : Window). IsStandby (record { state = old.state; applied = old.applied + 1; window = at })) (sym window_is) (IsStandby-moves old is below)

pub moves_on : (old : Data) (next : Option Request) (window : Window) → IsStandby old → slice_get (moved_on 1 old.window) 0 ≡ Some next → window ≡ slice_set (moved_on 1 old.window) 0 None
    → count_by is_some window + count_at next ≡ count_by is_some old.window → MovesOn old next (record { state = old.state; applied = old.applied + 1; window = window })
moves_on old next window is next_is window_is count = record {
  state = refl;
  applied = refl;
  next_is = next_is;
  window = window_is;
  may = next_may old next is next_is;
  some = is.some;
  count = count;
}
