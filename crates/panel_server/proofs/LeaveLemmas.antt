-- The session of a panel that leaves.
use Rattle.std.proofs.Common.{◌≡◌, ℕ, List, [], inl, inr, sym, ap, ◌∙◌, subst}
use Rattle.std.specs.Result.{IfOk, OnErr, OnOk}
use Rattle.std.specs.declared.result.Result.{Result}
use Rattle.std.specs.declared.result.Result.TheVariants.{Ok, Err}
use Rattle.history_lock.specs.Calls.{AddsOwn, IsNumbered, OnlyCalled, SeesAnswers}
use Rattle.history_lock.specs.History.{IsLegal}
use Rattle.history_lock.specs.Places.{Placed}
use Rattle.plant_config.specs.Plant.{PlantData}
use Rattle.plant_core.specs.Answer.{room_of}
use Rattle.plant_core.specs.State.{State, FitsPlant, start, Fits as Takes}
use Rattle.plant_core.specs.Step.{step}
use Rattle.plant_core.specs.declared.answer.Answer.{Answer}
use Rattle.plant_core.specs.declared.request.Request.TheVariants.{Leave}
use Rattle.panel_session.specs.declared.session.Session.{Session}
use Rattle.panel_session.specs.Session.{BeginsAnew, BeginsAnewUnanswered, StandsFor, outbox_of, with_outbox}
use Rattle.panel_session.specs.SoFar.{Progress, nothing_yet}
use Rattle.panel_session.specs.Served.{PlantSeat}
use Rattle.panel_session.proofs.EndedLemmas.{stands_plant}
use Rattle.panel_server.specs.DrivenInside.{IsGiven}
use Rattle.panel_server.specs.PanelServedInside.{MayBegin}
use Rattle.panel_server.proofs.PartLemmas.{leave_silent}

-- What may be made anew stands for nothing yet once it is.
pub begins_anew : (plant : PlantData) (panel : ℕ) (before after : Session) → MayBegin plant panel before → BeginsAnew before after → BeginsAnewUnanswered before after → StandsFor plant panel after nothing_yet
begins_anew plant panel before after may stood awaited = elim may.1 [
  | (inl stands) ↦ stood plant panel may.0 stands
  | (inr awaits) ↦ awaited plant panel may.0 awaits.0 awaits.1
]

-- Its panel is one of the plant, its outbox is empty, and has room for the answers of a step.
pub leave_fits : (plant : PlantData) (panel : ℕ) (session : Session) (past : Progress) → StandsFor plant panel session past → FitsPlant plant (Leave panel)
unfolding StandsFor
leave_fits plant panel session past stands = stands.0.has_panel

pub stands_empty : (plant : PlantData) (panel : ℕ) (session : Session) (past : Progress) → StandsFor plant panel session past → (outbox_of session).items ≡ []
unfolding StandsFor
stands_empty plant panel session past stands = stands.1

pub stands_places : (plant : PlantData) (panel : ℕ) (session : Session) (past : Progress) → StandsFor plant panel session past → (outbox_of session).places ≡ room_of plant
unfolding StandsFor
stands_places plant panel session past stands = stands.0.places

-- With an outbox that is empty again it stands for the same.
pub stands_box : (plant : PlantData) (panel : ℕ) (session : Session) (past : Progress) (box : Placed Answer) → StandsFor plant panel session past → box.items ≡ [] → box.places ≡ (outbox_of session).places → StandsFor plant panel (with_outbox session box) past
stands_box plant panel session past box stands empty places =
    let Stand : Placed Answer → Type 0 = λ box. StandsFor plant panel (with_outbox session box) past in
    let same : box ≡ outbox_of session =
    ap (λ (items : List Answer). record { items = items; places = box.places }) (empty ∙ sym (stands_empty plant panel session past stands))
    ∙ ap (λ (places : ℕ). record { items = (outbox_of session).items; places = places }) places in
    subst Stand (sym same) stands

-- a session has one plant
pub one_plant : (plant other : PlantData) (panel second : ℕ) (session : Session) → StandsFor plant panel session nothing_yet → StandsFor other second session nothing_yet → plant ≡ other
one_plant plant other panel second session stands too = sym (stands_plant plant panel session nothing_yet stands) ∙ stands_plant other second session nothing_yet too

-- What a call of a lock left.
pub record Gave {E : Type 0} (result : Result ℕ E) (panel : ℕ) (seat seat_then : PlantSeat) (box box_then : Placed Answer) : Type 0 where
  pub legal : OnOk result (IsLegal step Takes seat.first seat_then.seen)
  pub number : IfOk result (λ n. IsNumbered n seat_then.seen)
  pub seen : OnOk result (SeesAnswers seat (Leave panel) box_then.items seat_then)
  pub own : OnOk result (AddsOwn seat (Leave panel) box_then.items seat_then)
  pub rest : OnOk result (OnlyCalled seat seat_then)
  pub kept : OnErr result (box_then ≡ box)

-- It answers a leave by nothing, so the box is empty again,
pub gave_nothing : {E : Type 0} (result : Result ℕ E) (plant : PlantData) (panel : ℕ) (seat seat_then : PlantSeat) (box box_then : Placed Answer) → seat.first ≡ start plant → Gave result panel seat seat_then box box_then → box.items ≡ [] → box_then.items ≡ []
gave_nothing (Ok n) plant panel seat seat_then box box_then first gave empty =
    let Legal : State → Type 0 = λ first. IsLegal step Takes first seat_then.seen in
    leave_silent plant panel seat seat_then box_then.items (subst Legal first gave.legal) gave.seen
gave_nothing (Err fault) plant panel seat seat_then box box_then first gave empty = ap (λ (box : Placed Answer). box.items) gave.kept ∙ empty

-- and the entry is that of the leave.
pub gave_leave : {E : Type 0} (result : Result ℕ E) (plant : PlantData) (panel : ℕ) (seat seat_then : PlantSeat) (box box_then : Placed Answer) → seat.first ≡ start plant → Gave result panel seat seat_then box box_then → box_then.items ≡ []
    → IfOk result (λ position. IsGiven plant (Leave panel) [] position seat seat_then)
gave_leave (Ok n) plant panel seat seat_then box box_then first gave empty =
    let Legal : State → Type 0 = λ first. IsLegal step Takes first seat_then.seen in
    let Sees : List Answer → Type 0 = λ answers. SeesAnswers seat (Leave panel) answers seat_then in
    let Adds : List Answer → Type 0 = λ answers. AddsOwn seat (Leave panel) answers seat_then in
    record {
      numbered = gave.number;
      legal = subst Legal first gave.legal;
      sees = subst Sees empty gave.seen;
      own = subst Adds empty gave.own;
      rest = gave.rest;
    }
gave_leave (Err fault) plant panel seat seat_then box box_then first gave empty = tt
