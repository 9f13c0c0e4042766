-- Each replay has a history.
use Rattle.std.proofs.Common.{◌≡◌, ℕ, ◌<◌, ◌==◌, Bool, true, false, cond, List, [], ◌∷◌, ◌++◌, length, All, refl, sym, ◌∙◌, ap, subst, append_assoc, append-nil, arith, length-append}
use Rattle.std.specs.Prelude.{map}
use Rattle.std.specs.List.{flat_map}
use Rattle.std.proofs.lemmas.Bool.{eqb-true}
use Rattle.std.proofs.lemmas.List.Elements.{All-head, All-tail, All-nil, All-cons, All-from_recursion}
use Rattle.dle_framing.specs.Items.{TextReading}
use Rattle.dle_framing.proofs.Readings.{reading-by_start}
use Rattle.history_lock.specs.History.{run, IsLegal}
use Rattle.history_lock.proofs.HistoryLemmas.{run-append, legal-append}
use Rattle.plant_config.specs.Plant.{PlantData}
use Rattle.plant_config.specs.Screens.{has_screen}
use Rattle.plant_core.specs.State.{State, Fits, FitsPlant, start}
use Rattle.plant_core.specs.Step.{step}
use Rattle.plant_core.specs.declared.request.Request.{Request}
use Rattle.plant_core.specs.declared.request.Request.TheVariants as requests
use Rattle.plant_core.proofs.HistoryLemmas.{fits-run}
use Rattle.panel_session.specs.Asked.{AllAsk}
use Rattle.panel_session.specs.Entry.{PlantEntry}
use Rattle.panel_session.specs.Run.{turned}
use Rattle.panel_session.specs.Turns.{entries_in}
use Rattle.panel_session.proofs.SessionRequests.{turn-of_session}
use Rattle.record_replay.specs.Script.{Work, Read, Leave, Show, IsOfPlant, lines, worked, LinesSpell}
use Rattle.record_replay.specs.Replay.{ReplayState, begun, behind_turn, behind_step, Advances, AllWork, IsReplay}
use Rattle.record_replay.specs.StandInside.{IsSettled}
use Rattle.record_replay.specs.Streamed.{packets_by}
use Rattle.record_replay.specs.PortInside.{packets_at}
use Rattle.record_replay.specs.Answered.{AnswersItems, AnswersItsPiece}
use Rattle.record_replay.specs.Laws.{Action, Turned, Left, Polled, work_of, line_of, entries_by, history_of, IsSeated, piece_in, sent_in, pieces_of, sent_of, session_in, AreSessions, IsHistory}
use Rattle.record_replay.proofs.WorksLemmas.{settled-begun, settled-step}
use Rattle.record_replay.proofs.WorkAnswers.{work_settled, work_answers}
use Rattle.record_replay.proofs.IsReplayLemmas.{of_plant}
use Rattle.record_replay.proofs.SessionsLemmas.{flat_map-push, session-append, session-own, session-other, session-leave, session-polled, swapped, stays-of_session, IsBy, IsPast, past-as, past-bytes, past-session, past-turn}

module _ (plant : PlantData) where
  -- Actions lead to a stand: their history to its state, and what each session did in them is what it has done, all its turns
  -- over.
  pub record LeadTo (actions : List Action) (stand : ReplayState) : Type 0 where
    pub legal : IsLegal step Fits (start plant) (history_of actions)
    pub state_is : stand.state ≡ run step (start plant) (history_of actions)
    pub each : (panel : ℕ) → IsPast plant panel (pieces_of panel actions) (session_in panel (history_of actions)) (sent_of panel actions) (stand.pasts panel)
    pub settled : IsSettled plant stand

  -- None leads to the start.
  pub lead-begun : LeadTo [] (begun plant)
  lead-begun = record {
    legal = tt;
    state_is = refl;
    each = λ panel. record {
      are_turns = λ before after turn is. absurd (omega (arith, ap length is, length-append before (turn ∷ after)));
      pieces_are = refl;
      entries_are = refl;
      sent_is = refl;
      text = record { asked = []; items_ask = subst (λ its. AllAsk its []) (sym (ap (λ (reading : TextReading). reading.items) (reading-by_start []))) tt; bytes = refl };
    };
    settled = settled-begun plant;
  }

  -- One action more leads on: its entries are legal and lead to the state, and each session has done its part of it.
  lead-push : (actions : List Action) (action : Action) (stand next : ReplayState) → LeadTo actions stand → IsLegal step Fits stand.state (entries_by action) → next.state ≡ run step stand.state (entries_by action)
      → ((panel : ℕ) → IsPast plant panel (pieces_of panel actions ++ piece_in panel action) (session_in panel (history_of actions) ++ session_in panel (entries_by action))
      (sent_of panel actions ++ sent_in panel action) (next.pasts panel))
      → IsSettled plant next → LeadTo (actions ++ action ∷ []) next
  lead-push actions action stand next lead legal state_is each settled =
      let more : history_of (actions ++ action ∷ []) ≡ history_of actions ++ entries_by action = flat_map-push entries_by actions action in
      let LegalAt : State → Type 0 = λ state. IsLegal step Fits state (entries_by action) in
      let Legal : List PlantEntry → Type 0 = λ history. IsLegal step Fits (start plant) history in
      record {
        legal = subst Legal (sym more) (legal-append step Fits (start plant) (history_of actions) (entries_by action) lead.legal (subst LegalAt lead.state_is legal));
        state_is =
            state_is
            ∙ ap (λ (state : State). run step state (entries_by action)) lead.state_is
            ∙ sym (run-append step (start plant) (history_of actions) (entries_by action))
            ∙ ap (run step (start plant)) (sym more);
        each = λ panel. past-as plant panel _ _ _ _ _ _ (next.pasts panel)
            (sym (flat_map-push (piece_in panel) actions action))
            (sym (ap (session_in panel) more ∙ session-append panel (history_of actions) (entries_by action)))
            (sym (flat_map-push (sent_in panel) actions action))
            (each panel);
        settled = settled;
      }

  -- An action does a work that leads from a stand to the next with this line, and has the work's packets.
  pub record Does (actions : List Action) (work : Work) (line : List ℕ) (stand next : ReplayState) : Type 0 where
    pub action : Action
    pub work_is : work_of action ≡ work
    pub line_is : line ≡ line_of plant action
    pub packets_are : packets_at plant stand.state work ≡ packets_by plant action
    pub seated : IsSeated action
    pub answer : AnswersItsPiece actions action
    pub lead : LeadTo (actions ++ action ∷ []) next

  -- A request that fits the plant fits behind actions.
  fits-behind : (actions : List Action) (request : Request) (stand : ReplayState) → LeadTo actions stand → FitsPlant plant request → Fits stand.state request
  fits-behind actions request stand lead fits =
      let FitsAt : State → Type 0 = λ state. Fits state request in
      subst FitsAt (sym lead.state_is) (fits-run plant (start plant) (history_of actions) request refl fits)

  -- An action of one step that is no session's leads on.
  lead-step : (actions : List Action) (action : Action) (request : Request) (stand : ReplayState) → LeadTo actions stand → IsLegal step Fits stand.state (entries_by action)
      → (step stand.state request).state ≡ run step stand.state (entries_by action)
      → ((panel : ℕ) → (piece_in panel action ≡ []) × (session_in panel (entries_by action) ≡ []) × (sent_in panel action ≡ []))
      → LeadTo (actions ++ action ∷ []) (behind_step request stand)
  lead-step actions action request stand lead legal state_is none =
      lead-push actions action stand (behind_step request stand) lead legal state_is
      (λ other. past-as plant other _ _ _ _ _ _ (stand.pasts other)
      (sym (ap (λ (l : List (List ℕ)). pieces_of other actions ++ l) (none other).0 ∙ append-nil _))
      (sym (ap (λ (l : List PlantEntry). session_in other (history_of actions) ++ l) (none other).1 ∙ append-nil _))
      (sym (ap (λ (l : List ℕ). sent_of other actions ++ l) (none other).2 ∙ append-nil _))
      (lead.each other))
      (settled-step plant request stand lead.settled)

  -- A leave is an action,
  does-leave : (actions : List Action) (panel : ℕ) (line : List ℕ) (stand next : ReplayState) → LeadTo actions stand → panel < length plant.panels → Advances plant (Leave panel) stand line next
      → Does actions (Leave panel) line stand next
  does-leave actions panel line stand next lead has done =
      let leave = requests.Leave panel in
      let Leads : ReplayState → Type 0 = λ next. LeadTo (actions ++ Left panel ∷ []) next in
      record {
        action = Left panel;
        work_is = refl;
        line_is = done.0;
        packets_are = refl;
        seated = tt;
        answer = tt;
        lead = subst Leads (sym done.1)
            (lead-step actions (Left panel) leave stand lead (fits-behind actions leave stand lead has, refl, tt) refl (λ other. (refl, session-leave other panel, refl)));
      }

  -- so is a display poll,
  does-show : (actions : List Action) (screen : ℕ) (refresh : Bool) (line : List ℕ) (stand next : ReplayState) → LeadTo actions stand → has_screen plant screen ≡ true
      → Advances plant (Show screen refresh) stand line next → Does actions (Show screen refresh) line stand next
  does-show actions screen refresh line stand next lead has done =
      let poll = requests.DisplayPoll screen refresh in
      let action : Action = Polled screen refresh (step stand.state poll).answers in
      let Leads : ReplayState → Type 0 = λ next. LeadTo (actions ++ action ∷ []) next in
      record {
        action = action;
        work_is = refl;
        line_is = done.0;
        packets_are = refl;
        seated = tt;
        answer = tt;
        lead = subst Leads (sym done.1)
            (lead-step actions action poll stand lead (fits-behind actions poll stand lead has, refl, tt) refl (λ other. (refl, session-polled other screen refresh _, refl)));
      }

  -- and so is a turn:
  does-turn : (actions : List Action) (panel : ℕ) (piece line : List ℕ) (stand next : ReplayState) → LeadTo actions stand → panel < length plant.panels → Advances plant (Read panel piece) stand line next
      → Does actions (Read panel piece) line stand next
  does-turn actions panel piece line stand next lead has done =
      let by : All (IsBy panel) (entries_in done.0) = λ k d below. (done.3.seats k d below, stays-of_session _ (turn-of_session panel _ done.0 done.3.is_turn k d below)) in
      let action : Action = Turned panel piece (entries_in done.0) done.1 in
      let Leads : ReplayState → Type 0 = λ next. LeadTo (actions ++ action ∷ []) next in
      let Answers : List ℕ → Type 0 = λ read. AnswersItems read piece done.1 in
      let PastIs : ℕ → Bool → Type 0 = λ other b.
      IsPast plant other (pieces_of other actions ++ cond b (piece ∷ []) []) (session_in other (history_of actions) ++ session_in other (entries_in done.0)) (sent_of other actions ++ cond b done.1 [])
      (cond b (turned done.0 done.1 (stand.pasts panel)) (stand.pasts other)) in
      let each : (other : ℕ) → PastIs other (other == panel) = λ other. elim (other == panel) as (λ b. (other == panel) ≡ b → PastIs other b) [
        | true ↦ λ same.
            let here : panel ≡ other = sym (eqb-true other panel same) in
            let Of : ℕ → Type 0 = λ other. PastIs other true in
            subst Of here
            (past-as plant panel _ _ _ _ _ _ (turned done.0 done.1 (stand.pasts panel)) refl
            (ap (λ (l : List PlantEntry). session_in panel (history_of actions) ++ l) (sym (session-own panel (entries_in done.0) by))) refl
            (past-turn plant panel _ _ _ piece (stand.pasts panel) stand.state done.0 done.1 (lead.each panel) done.2 done.3))
        | false ↦ λ apart.
            past-as plant other _ _ _ _ _ _ (stand.pasts other) (sym (append-nil _))
            (sym (ap (λ (l : List PlantEntry). session_in other (history_of actions) ++ l) (session-other other panel (entries_in done.0) (swapped other panel apart) by) ∙ append-nil _))
            (sym (append-nil _)) (lead.each other)
      ] refl in
      record {
        action = action;
        work_is = refl;
        line_is = done.4;
        packets_are = refl;
        seated = by;
        answer = subst Answers (past-bytes plant panel _ _ _ (stand.pasts panel) (lead.each panel)) (work_answers plant panel piece line stand next lead.settled has done);
        lead = subst Leads (sym done.5)
            (lead-push actions action stand (behind_turn panel done.0 done.1 stand) lead done.3.legal refl each
            (work_settled plant (Read panel piece) line stand (behind_turn panel done.0 done.1 stand) lead.settled has (done.0, done.1, done.2, done.3, done.4, refl)));
      }

  -- each work is done by an action.
  pub does : (actions : List Action) (work : Work) (line : List ℕ) (stand next : ReplayState) → LeadTo actions stand → IsOfPlant plant work → Advances plant work stand line next
      → Does actions work line stand next
  does actions (Read panel piece) line stand next lead has done = does-turn actions panel piece line stand next lead has done
  does actions (Leave panel) line stand next lead has done = does-leave actions panel line stand next lead has done
  does actions (Show screen refresh) line stand next lead has done = does-show actions screen refresh line stand next lead has done

  -- Behind such actions the session of each panel is one.
  pub lead-sessions : (actions : List Action) (stand : ReplayState) → LeadTo actions stand → AreSessions plant actions
  lead-sessions actions stand lead panel = past-session plant panel _ _ _ (stand.pasts panel) (lead.each panel)

  -- Behind actions that made a history, more actions do works that write this output.
  pub record DoesAll (actions : List Action) (works : List Work) (output : List ℕ) : Type 0 where
    pub more : List Action
    pub works_are : map work_of more ≡ works
    pub shown : output ≡ flat_map (line_of plant) more
    pub seated : All IsSeated more
    pub legal : IsLegal step Fits (start plant) (history_of (actions ++ more))
    pub each : (before after : List Action) → more ≡ before ++ after → AreSessions plant (actions ++ before)
    pub answers : (before after : List Action) (action : Action) → more ≡ before ++ action ∷ after → AnswersItsPiece (actions ++ before) action

  -- No works are left,
  unfoldable pub does_none : (actions : List Action) (output : List ℕ) (stand : ReplayState) → LeadTo actions stand → output ≡ [] → DoesAll actions [] output
  does_none actions output stand lead none = record {
    more = [];
    works_are = refl;
    shown = none;
    seated = All-nil IsSeated;
    legal = subst (λ (actions : List Action). IsLegal step Fits (start plant) (history_of actions)) (sym (append-nil actions)) lead.legal;
    each = each;
    answers = answers;
  }
    where
      each : (before after : List Action) → [] ≡ before ++ after → AreSessions plant (actions ++ before)
      each [] after is = subst (AreSessions plant) (sym (append-nil actions)) (lead-sessions actions stand lead)
      each (first ∷ before) after is = absurd cc

      answers : (before after : List Action) (action : Action) → [] ≡ before ++ action ∷ after → AnswersItsPiece (actions ++ before) action
      answers [] after action is = absurd cc
      answers (first ∷ before) after action is = absurd cc

  -- or one is done before the others.
  unfoldable pub does_first : (actions : List Action) (work : Work) (works : List Work) (line rest output : List ℕ) (stand next : ReplayState) → LeadTo actions stand → (one : Does actions work line stand next)
      → DoesAll (actions ++ one.action ∷ []) works rest → output ≡ line ++ rest → DoesAll actions (work ∷ works) output
  does_first actions work works line rest output stand next lead one later is = record {
    more = one.action ∷ later.more;
    works_are = λ i. one.work_is i ∷ later.works_are i;
    shown = is ∙ (λ i. one.line_is i ++ later.shown i);
    seated = All-cons IsSeated one.action later.more one.seated later.seated;
    legal = subst (λ (actions : List Action). IsLegal step Fits (start plant) (history_of actions)) (append_assoc actions (one.action ∷ []) later.more) later.legal;
    each = each;
    answers = answers;
  }
    where
      each : (before after : List Action) → one.action ∷ later.more ≡ before ++ after → AreSessions plant (actions ++ before)
      each [] after is = subst (AreSessions plant) (sym (append-nil actions)) (lead-sessions actions stand lead)
      each (first ∷ before) after is =
          let head : one.action ≡ first = cc in
          let tail : later.more ≡ before ++ after = cc in
          subst (AreSessions plant) (append_assoc actions (one.action ∷ []) before ∙ ap (λ (action : Action). actions ++ action ∷ before) head) (later.each before after tail)

      answers : (before after : List Action) (action : Action) → one.action ∷ later.more ≡ before ++ action ∷ after → AnswersItsPiece (actions ++ before) action
      answers [] after action is =
          let Behind : List Action → Type 0 = λ before. AnswersItsPiece before action in
          let head : one.action ≡ action = cc in
          subst Behind (sym (append-nil actions)) (subst (AnswersItsPiece actions) head one.answer)
      answers (first ∷ before) after action is =
          let Behind : List Action → Type 0 = λ before. AnswersItsPiece before action in
          let head : one.action ≡ first = cc in
          let tail : later.more ≡ before ++ action ∷ after = cc in
          subst Behind (append_assoc actions (one.action ∷ []) before ∙ ap (λ (first : Action). actions ++ first ∷ before) head) (later.answers before after action tail)

  -- So all works are done by actions,
  pub does_all : (works : List Work) (actions : List Action) (output : List ℕ) (stand last : ReplayState) → LeadTo actions stand → All (IsOfPlant plant) works
      → AllWork plant works stand output last → DoesAll actions works output
  does_all [] actions output stand last lead has done = does_none actions output stand lead done.0
  does_all (work ∷ works) actions output stand last lead has done =
      let Has : Work → Type 0 = IsOfPlant plant in
      let one : Does actions work done.1 stand done.0 = does actions work done.1 stand done.0 lead (All-head Has work works has) done.3 in
      does_first actions work works done.1 done.2 output stand done.0 lead one
      (does_all works (actions ++ one.action ∷ []) done.2 done.0 last one.lead (All-tail Has work works has) done.4) done.5

  -- and each replay has a history, in which what each turn sends answers its items.
  pub history_answers : (script output : List ℕ) → IsReplay plant script output
      → (actions : List Action) × IsHistory plant script output actions × ((before after : List Action) (action : Action) → actions ≡ before ++ action ∷ after → AnswersItsPiece before action)
  history_answers script output replay =
      let has = All-from_recursion (IsOfPlant plant) replay.works (of_plant plant (worked (lines script)) replay.works replay.spelled) in
      let all : DoesAll [] replay.works output = does_all replay.works [] output (begun plant) replay.last lead-begun has replay.all_work in (
        all.more,
        record {
          spelled = subst (LinesSpell plant (worked (lines script))) (sym all.works_are) replay.spelled;
          shown = all.shown;
          seated = all.seated;
          legal = all.legal;
          each = all.each;
        },
        all.answers,
      )

  pub history_exists : (script output : List ℕ) → IsReplay plant script output → (actions : List Action) × IsHistory plant script output actions
  history_exists script output replay = let made = history_answers script output replay in (made.0, made.1)
