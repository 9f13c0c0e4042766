-- A standby that follows a history goes on following it.
use Rattle.std.proofs.Common.{◌≡◌, ℕ, ◌+◌, ◌-◌, ◌<◌, ◌≤◌, zero, suc, List, [], ◌∷◌, length, take, drop, inl, inr, refl, sym, ap, subst, ◌∙◌, arith}
use Rattle.history_lock.specs.History.{run, IsLegal}
use Rattle.history_lock.proofs.HistoryLemmas.{legal_front, legal-append}
use Rattle.std.proofs.lemmas.List.{take-append-drop}
use Rattle.plant_config.specs.Plant.{PlantData}
use Rattle.plant_core.specs.declared.request.Request.{Request}
use Rattle.plant_core.specs.State as states
use Rattle.plant_core.specs.State.{State, Fits}
use Rattle.plant_core.specs.Step.{step}
use Rattle.plant_core.specs.HistoryLaws.{PlantEntry}
use Rattle.standby.specs.declared.took.Took.{Took}
use Rattle.standby.specs.declared.took.Took.TheVariants.{Old, Beyond, Differs, Kept, Applied}
use Rattle.standby.specs.Standby.{Data, start, in_row, state_after, keeps, applies}
use Rattle.standby.specs.Table.{Takes}
use Rattle.standby.specs.Follows.{front_state, StandsAt, Follows, GoesOn}
use Rattle.standby.specs.Laws.{NewStandbysFollow, StandbysFollow, StandbysAgree, StandbysKeepTheSame, TakeoversGoOn}
use Rattle.standby.proofs.WindowLemmas.{get-drop}
use Rattle.standby.proofs.RowLemmas.{Along, row_along}
use Rattle.standby.proofs.StandbyLemmas.{kept_applies, kept_keeps, kept_start}

-- what a history has at a position is below its length
pub stands-within : (history : List PlantEntry) (position : ℕ) (request : Request) → StandsAt history position request → position < length history
stands-within [] position request e = cc
stands-within (entry ∷ history) zero request e = omega arith
stands-within (entry ∷ history) (suc position) request e = omega (arith, stands-within history position request e)

-- one entry more is one step more
pub front_more : (first : State) (history : List PlantEntry) (position : ℕ) (request : Request) → StandsAt history position request
    → run step first (take (suc position) history) ≡ (step (run step first (take position history)) request).state
front_more first [] position request e = cc
front_more first (entry ∷ history) zero request e =
    let same : entry.request ≡ request = cc in
    ap (λ asked. (step first asked).state) same
front_more first (entry ∷ history) (suc position) request e = front_more (step first entry.request).state history position request e

-- A row of requests that the history has from a position on leaves what its longer front leaves.
pub row_runs : (plant : PlantData) (history : List PlantEntry) (row : List Request) (position : ℕ) (state : State)
    → Along (StandsAt history) position row → position ≤ length history → state ≡ front_state plant history position
    → (state_after state row ≡ front_state plant history (position + length row)) × (position + length row ≤ length history)
row_runs plant history [] position state along within is =
    let same : position ≡ position + 0 = omega arith in
    (is ∙ ap (front_state plant history) same, omega arith)
row_runs plant history (request ∷ row) position state along within is =
    let below = stands-within history position request along.0 in
    let next : (step state request).state ≡ front_state plant history (suc position) =
    ap (λ state. (step state request).state) is ∙ sym (front_more (states.start plant) history position request along.0) in
    let later = row_runs plant history row (suc position) (step state request).state along.1 (omega (arith, below)) next in
    let same : suc position + length row ≡ position + suc (length row) = omega arith in
    (later.0 ∙ ap (front_state plant history) same, omega (arith, later.1))

pub new_follows : NewStandbysFollow
new_follows plant places history = record {
  within = omega arith;
  state = refl;
  kept = λ position request is. absurd (kept_start plant places position request is);
}

module _ (plant : PlantData) (history : List PlantEntry) (old : Data) (follows : Follows plant history old) where
  follows-keeps : (position : ℕ) (request : Request) → old.applied ≤ position → StandsAt history position request → Follows plant history (keeps old position request)
  follows-keeps position request above stands = record {
    within = follows.within;
    state = follows.state;
    kept = λ at other kept. elim (kept_keeps old position request at other above kept) [
      | inl here ↦ rw (here.0, here.1) stands
      | inr there ↦ follows.kept at other there
    ];
  }

  follows-applies : (request : Request) → StandsAt history old.applied request → Follows plant history (applies old request)
  follows-applies request stands = record {
    within = runs.1;
    state = runs.0;
    kept = λ at other kept. follows.kept at other (kept_applies old request at other kept);
  }
    where
      behind : Along (StandsAt history) (suc old.applied) (in_row (drop 1 old.window))
      behind = row_along (StandsAt history) (drop 1 old.window) (suc old.applied) (λ offset other e.
          follows.kept (suc old.applied + offset) other (record {
            offset = 1 + offset;
            position_is = omega arith;
            kept = sym (get-drop 1 offset old.window) ∙ e;
          }))

      runs : (state_after old.state (request ∷ in_row (drop 1 old.window)) ≡ front_state plant history (old.applied + length (request ∷ in_row (drop 1 old.window)))) × (old.applied + length (request ∷ in_row (drop 1 old.window)) ≤ length history)
      runs = row_runs plant history (request ∷ in_row (drop 1 old.window)) old.applied old.state (stands, behind) follows.within follows.state

  unchanged : (new : Data) → new ≡ old → Follows plant history new
  unchanged new same = subst (Follows plant history) (sym same) follows

  pub goes_on : (position : ℕ) (request : Request) (took : Took) (new : Data) → Takes old position request took new → StandsAt history position request → GoesOn plant history took new
  goes_on position request Old new takes stands = record { same = λ e. cc; follows = unchanged new takes.unchanged }
  goes_on position request (Beyond told) new takes stands = record { same = λ e. cc; follows = unchanged new takes.unchanged }
  goes_on position request Differs new takes stands =
      let other = follows.kept position takes.other takes.kept in
      let same : takes.other ≡ request = cc (other, stands) in
      absurd (takes.another same)
  goes_on position request Kept new takes stands = record {
    same = λ e. cc;
    follows = subst (Follows plant history) (sym takes.is) (follows-keeps position request (omega (arith, takes.above)) stands);
  }
  goes_on position request (Applied told) new takes stands = record {
    same = λ e. cc;
    follows = subst (Follows plant history) (sym takes.is) (follows-applies request (subst (λ at. StandsAt history at request) takes.here stands));
  }

pub standbys_follow : StandbysFollow
standbys_follow old position request took new takes plant history follows stands = goes_on plant history old follows position request took new takes stands

pub keep_the_same : StandbysKeepTheSame
keep_the_same plant history one other position request another a b kept also =
    let here = a.kept position request kept in
    let there = b.kept position another also in
    cc (here, there)

take-nil : (n : ℕ) → take {A = PlantEntry} n [] ≡ []
take-nil zero = refl
take-nil (suc n) = refl

-- what a longer front leaves, begun where a shorter one ended
run-between : (first : State) (a b : ℕ) (history : List PlantEntry) → a ≤ b → run step first (take b history) ≡ run step (run step first (take a history)) (take (b - a) (drop a history))
run-between first zero b history below =
    let same : b ≡ b - 0 = omega arith in
    ap (λ n. run step first (take n history)) same
run-between first (suc a) zero history below = absurd (omega arith)
run-between first (suc a) (suc b) [] below = sym (ap (run step first) (take-nil (suc b - suc a)))
run-between first (suc a) (suc b) (entry ∷ history) below =
    let same : b - a ≡ suc b - suc a = omega arith in
    run-between (step first entry.request).state a b history (omega (arith, below))
    ∙ ap (λ n. run step (run step (step first entry.request).state (take a history)) (take n (drop a history))) same

pub standbys_agree : StandbysAgree
standbys_agree plant history one other a b below =
    b.state ∙ run-between (states.start plant) one.applied other.applied history below
    ∙ ap (λ state. run step state (take (other.applied - one.applied) (drop one.applied history))) (sym a.state)

pub takeovers_go_on : TakeoversGoOn
takeovers_go_on plant history later standby follows legal more =
    let parts = sym (take-append-drop standby.applied history) in
    let front = legal_front step Fits (states.start plant) (take standby.applied history) (drop standby.applied history) (subst (IsLegal step Fits (states.start plant)) parts legal) in
    legal-append step Fits (states.start plant) (take standby.applied history) later front
    (subst (λ state. IsLegal step Fits state later) follows.state more)
