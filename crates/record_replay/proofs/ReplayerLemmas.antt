-- What works make of the plant and the sessions.
use Rattle.std.proofs.Common.{◌≡◌, ◌≢◌, ℕ, ◌+◌, ◌^◌, ◌≤◌, ◌<◌, ◌==◌, Bool, true, false, cond, List, [], length, refl, sym, ap, ◌∙◌, subst, arith}
use Rattle.std.specs.Prelude.{slice_index_or, slice_set, IfErr, OnOk, Result, Ok, Err}
use Rattle.std.proofs.lemmas.Bool.{eqb-true, eqb-false}
use Rattle.std.proofs.lemmas.List.{get_or-set_same, get_or-set_other, length-set}
use Rattle.history_lock.specs.History.{run}
use Rattle.plant_config.specs.Plant.{PlantData}
use Rattle.plant_core.specs.Answer.{room_of}
use Rattle.plant_core.specs.State.{State, Fits, FitsPlant}
use Rattle.plant_core.specs.Step.{step}
use Rattle.plant_core.specs.declared.request.Request.{Request}
use Rattle.plant_core.specs.declared.request.Request.TheVariants as requests
use Rattle.display_packets.specs.DisplayPacket.{AreLamps}
use Rattle.display_packets.proofs.LampLemmas.{display_poll-lamps}
use Rattle.panel_session.specs.declared.session.Session.{Session}
use Rattle.panel_session.specs.Answering.{AnswersOf, AnySeat, ServesOf}
use Rattle.panel_session.specs.Engine.{HasRun, IsReady, MayTurn, RunsOn, StopsIn}
use Rattle.panel_session.specs.declared.session.cut.Cut.{Cut}
use Rattle.panel_session.specs.declared.session.cut.Cut.TheVariants.{Refused, Untraced, Unsent}
use Rattle.panel_session.specs.Entry.{PlantEntry}
use Rattle.panel_session.specs.Run.{IsWorked, turned}
use Rattle.panel_session.specs.Session.{StandsFor}
use Rattle.panel_session.specs.SettledInside.{Settled}
use Rattle.panel_session.specs.SoFar.{Progress}
use Rattle.panel_session.specs.Turns.{entries_in}
use Rattle.plant_core.proofs.HistoryLemmas.{fits-run, run-valid, run-short}
use Rattle.plant_core.proofs.ShortLemmas.{StaysShort-step}
use Rattle.plant_core.proofs.StepValidity.{IsValid-step}
use Rattle.panel_session.proofs.TurnExists.{turn_exists}
use Rattle.panel_session.proofs.TurnOnce.{one_turn_lem}
use Rattle.record_replay.specs.declared.replayer.Replayer.{Replayer}
use Rattle.record_replay.specs.Script.{Work, Read}
use Rattle.record_replay.specs.Replay.{ReplayState, with_past, behind_turn, behind_step, turn_line, Advances}
use Rattle.record_replay.specs.ReplayerInside.{StandsAt, MayDo, IsSmall, HasDone, need_of}
use Rattle.record_replay.proofs.SmallLemmas.{small_later, small_turned, may_go_on}
use Rattle.record_replay.proofs.WorksLemmas.{settled-turn, settled-step}

-- Whatever holds of each session's past holds once one of them has another.
with_one : (P : ℕ → Progress → Type 0) (panel : ℕ) (past : Progress) (pasts : ℕ → Progress) → P panel past → ((other : ℕ) → other ≢ panel → P other (pasts other)) → (other : ℕ) → P other (with_past panel past pasts other)
with_one P panel past pasts here others other =
    elim (other == panel) as (λ b. (other == panel) ≡ b → P other (cond b past (pasts other))) [
      | true ↦ λ same. subst (λ (one : ℕ). P one past) (sym (eqb-true other panel same)) here
      | false ↦ λ apart. others other (eqb-false other panel apart)
    ] refl

-- A session of a replayer may have a turn,
pub may_turn : (plant : PlantData) (panel : ℕ) (piece : List ℕ) (replayer : Replayer) (session : Session) (stand : ReplayState) (used : ℕ) → panel < length plant.panels → StandsAt plant replayer stand used → used + need_of (Read panel piece) < 2 ^ 63
    → session ≡ slice_index_or replayer.sessions.items panel session → MayTurn AnySeat ServesOf plant panel panel session (stand.pasts panel) replayer.state piece
may_turn plant panel piece replayer session stand used has stands within is =
    let serves : ServesOf plant stand.state = record { plant_is = stands.settled.plant_is; valid = stands.valid; short = stands.short } in
    record {
      stands = subst (λ (session : Session). StandsFor plant panel session (stand.pasts panel)) (sym is) (stands.each panel session has);
      begins = (stands.settled.each panel).begins;
      may = may_go_on used (stand.pasts panel) piece (stands.settled.each panel).begins (stands.small panel) within;
      seated = tt;
      serves = subst (λ (state : State). ServesOf plant state) (sym stands.state_is) serves;
    }

-- and is ready for it.
pub ready : (plant : PlantData) (panel : ℕ) (piece : List ℕ) (replayer : Replayer) (session : Session) → panel < length plant.panels → MayDo (need_of (Read panel piece)) plant replayer
    → session ≡ slice_index_or replayer.sessions.items panel session → IsReady AnySeat ServesOf session replayer.state piece
ready plant panel piece replayer session has may is = record { plant = plant; panel = panel; seat = panel; past = may.stand.pasts panel; may = may_turn plant panel piece replayer session may.stand may.used has may.stands may.within is }

-- Neither the plant nor an output cuts a turn short.
pub replay_runs : {Outlet : Type 0} (Given : Outlet → List ℕ → Outlet → Type 0) (piece : List ℕ) (session session_then : Session) (state state_then : State) (out out_then : Outlet) (result : Result (Unit {0}) Cut)
    → OnOk result (RunsOn AnySeat ServesOf AnswersOf false Given piece session session_then state state_then out out_then)
    → IfErr result (λ cut. StopsIn AnySeat ServesOf AnswersOf (λ (first : State) (entry : PlantEntry) (last : State). ⊥) (λ (first last : State). ⊥) false Given (λ (first : Outlet) (bytes : List ℕ) (last : Outlet). ⊥) cut piece session session_then state state_then out out_then)
    → RunsOn AnySeat ServesOf AnswersOf false Given piece session session_then state state_then out out_then
replay_runs Given piece session session_then state state_then out out_then (Ok done) runs cut = runs
replay_runs Given piece session session_then state state_then out out_then (Err Refused) runs cut = λ plant panel seat past may. absurd (cut plant panel seat past may).ends.refuses
replay_runs Given piece session session_then state state_then out out_then (Err Untraced) runs cut = λ plant panel seat past may. absurd (cut plant panel seat past may).ends.traces
replay_runs Given piece session session_then state state_then out out_then (Err Unsent) runs cut = λ plant panel seat past may. absurd (cut plant panel seat past may).ends.fails.failed

-- A turn that was worked over the plant is one that a replay works.
run_is_worked : {plant : PlantData} {panel : ℕ} {past : Progress} {piece : List ℕ} {state state_then : State} {session : Session} {more : List ℕ} (ran : HasRun AnswersOf false plant panel panel past piece state state_then session more)
    → IsWorked step Fits plant panel past state ran.turn more
run_is_worked ran = record { is_turn = ran.is_turn; seats = ran.seats; legal = ran.answers.0; text = ran.text }

-- A turn was worked.
pub turn_done : (plant : PlantData) (panel : ℕ) (piece : List ℕ) (before after : Replayer) (session : Session) (stand : ReplayState) (used : ℕ) (more : List ℕ) → panel < length plant.panels
    → StandsAt plant before stand used → HasRun AnswersOf false plant panel panel (stand.pasts panel) piece before.state after.state session more
    → after.plant ≡ before.plant → after.sessions.items ≡ slice_set before.sessions.items panel session → after.outbox ≡ before.outbox
    → HasDone plant (Read panel piece) stand used after (turn_line panel more)
turn_done plant panel piece before after session stand used more has stands ran same_plant set same_outbox =
    let worked : IsWorked step Fits plant panel (stand.pasts panel) stand.state ran.turn more =
    subst (λ (state : State). IsWorked step Fits plant panel (stand.pasts panel) state ran.turn more) stands.state_is (run_is_worked ran) in
    let made = turn_exists step Fits plant panel (stand.pasts panel) stand.state piece has (stands.settled.each panel)
    (λ history request legal fits. fits-run plant stand.state history request stands.settled.plant_is fits) in
    let same = one_turn_lem step Fits plant panel (stand.pasts panel) stand.state made.0 ran.turn made.1 more made.3 worked (made.2 ∙ sym ran.piece_is) in
    let settled : Settled plant panel (turned ran.turn more (stand.pasts panel)) =
    subst (Settled plant panel) (λ i. turned (same.0 i) (same.1 i) (stand.pasts panel)) made.4 in
    let next = behind_turn panel ran.turn more stand in
    record {
      next = next;
      works = (ran.turn, more, ran.piece_is, worked, refl, refl);
      stands = record {
        plant_is = ap (λ plant. plant.now) same_plant ∙ stands.plant_is;
        state_is = ran.answers.1 ∙ ap (λ (state : State). run step state (entries_in ran.turn)) stands.state_is;
        valid = run-valid stand.state (entries_in ran.turn) stands.valid;
        short = run-short stand.state (entries_in ran.turn) stands.valid stands.short worked.legal;
        settled = settled-turn plant panel ran.turn more stand stands.settled settled;
        count = ap (length {A = Session}) set ∙ length-set before.sessions.items panel session ∙ stands.count;
        each = λ other default has_other.
            with_one (λ (one : ℕ) (past : Progress). one < length plant.panels → StandsFor plant one (slice_index_or after.sessions.items one default) past) panel (turned ran.turn more (stand.pasts panel)) stand.pasts
            (λ has_one. subst (λ (session : Session). StandsFor plant panel session (turned ran.turn more (stand.pasts panel)))
            (sym (ap (λ (all : List Session). slice_index_or all panel default) set ∙ get_or-set_same before.sessions.items panel session default (omega (arith, has, stands.count)))) ran.stands)
            (λ one apart has_one. subst (λ (session : Session). StandsFor plant one session (stand.pasts one))
            (sym (ap (λ (all : List Session). slice_index_or all one default) set ∙ get_or-set_other before.sessions.items panel one session default apart)) (stands.each one default has_one))
            other has_other;
        small =
            with_one (λ (one : ℕ) (past : Progress). IsSmall (used + need_of (Read panel piece)) past) panel (turned ran.turn more (stand.pasts panel)) stand.pasts
            (subst (λ (piece : List ℕ). IsSmall (used + need_of (Read panel piece)) (turned ran.turn more (stand.pasts panel))) ran.piece_is (small_turned used (stand.pasts panel) ran.turn more (stands.small panel)))
            (λ one apart. small_later used (used + need_of (Read panel piece)) (stand.pasts one) (omega arith) (stands.small one));
        empty = ap (λ box. box.items) same_outbox ∙ stands.empty;
        places = subst (λ (places : ℕ). room_of plant ≤ places) (sym (ap (λ box. box.places) same_outbox)) stands.places;
      };
    }

-- One step was made that no session asks for.
pub step_done : (plant : PlantData) (work : Work) (request : Request) (before after : Replayer) (stand : ReplayState) (used : ℕ) (text : List ℕ) → StandsAt plant before stand used
    → FitsPlant plant request → Advances plant work stand text (behind_step request stand)
    → after.state ≡ (step before.state request).state → after.plant ≡ before.plant → after.sessions ≡ before.sessions
    → after.outbox.items ≡ [] → after.outbox.places ≡ before.outbox.places
    → HasDone plant work stand used after text
step_done plant work request before after stand used text stands fits works state same_plant same_sessions empty places = record {
  next = behind_step request stand;
  works = works;
  stands = record {
    plant_is = ap (λ plant. plant.now) same_plant ∙ stands.plant_is;
    state_is = state ∙ ap (λ (state : State). (step state request).state) stands.state_is;
    valid = IsValid-step stand.state request stands.valid;
    short = StaysShort-step stand.state request stands.valid stands.short (fits-run plant stand.state [] request stands.settled.plant_is fits);
    settled = settled-step plant request stand stands.settled;
    count = ap (λ sessions. length sessions.items) same_sessions ∙ stands.count;
    each = λ other default has. subst (λ sessions. StandsFor plant other (slice_index_or sessions.items other default) (stand.pasts other)) (sym same_sessions) (stands.each other default has);
    small = λ other. small_later used (used + need_of work) (stand.pasts other) (omega arith) (stands.small other);
    empty = empty;
    places = subst (λ (room : ℕ). room_of plant ≤ room) (sym places) stands.places;
  };
}

-- A display poll of a replayer is answered by lamps of the plant.
pub poll_lamps : (plant : PlantData) (screen : ℕ) (refresh : Bool) (replayer : Replayer) (stand : ReplayState) (used : ℕ) → StandsAt plant replayer stand used
    → AreLamps plant (step replayer.state (requests.DisplayPoll screen refresh)).answers
poll_lamps plant screen refresh replayer stand used stands =
    let poll = requests.DisplayPoll screen refresh in
    let Of : PlantData → Type 0 = λ plant. AreLamps plant (step stand.state poll).answers in
    let At : State → Type 0 = λ state. AreLamps plant (step state poll).answers in
    subst At (sym stands.state_is) (subst Of stands.settled.plant_is (display_poll-lamps stand.state screen refresh stands.valid))
