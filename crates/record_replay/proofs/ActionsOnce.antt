-- A script has one history on a plant.
use Rattle.std.proofs.Common.{◌≡◌, ℕ, inl, inr, Bool, cond, List, [], ◌∷◌, ◌++◌, All, refl, sym, ◌∙◌, ap, subst, append_assoc, append-nil}
use Rattle.std.specs.Prelude.{map}
use Rattle.std.specs.List.{flat_map}
use Rattle.std.proofs.lemmas.Bool.{eq-eqb}
use Rattle.std.proofs.lemmas.List.Folds.{flat_map-map}
use Rattle.std.proofs.lemmas.List.Elements.{All-head, All-tail}
use Rattle.history_lock.specs.History.{run, IsLegal}
use Rattle.history_lock.proofs.HistoryLemmas.{legal_front}
use Rattle.plant_config.specs.Plant.{PlantData}
use Rattle.plant_core.specs.State.{State, Fits, start}
use Rattle.plant_core.specs.Step.{step}
use Rattle.plant_core.specs.declared.request.Request.TheVariants as requests
use Rattle.panel_session.specs.Entry.{PlantEntry}
use Rattle.panel_session.specs.Run.{IsWorked}
use Rattle.panel_session.specs.SoFar.{Progress, unstarted}
use Rattle.panel_session.specs.Turns.{Turn, bytes_read, entries_of_turns, entries_in}
use Rattle.panel_session.proofs.TurnOnce.{legal_later, one_turn_lem}
use Rattle.panel_session.proofs.TurnsOnce.{next_turn}
use Rattle.record_replay.specs.Script.{lines, worked}
use Rattle.record_replay.specs.Replay.{IsReplay}
use Rattle.record_replay.specs.Laws.{Action, Turned, Left, Polled, work_of, line_of, entries_by, history_of, IsSeated, piece_in, sent_in, pieces_of, sent_of, session_in, AreSessions, IsHistory}
use Rattle.record_replay.proofs.IsReplayLemmas.{one_spelling, none_bad, always}
use Rattle.record_replay.proofs.SessionsLemmas.{flat_map-push, session-append, session-own, IsBy, text-as}
use Rattle.record_replay.proofs.ActionsLemmas.{history_exists}

module _ (plant : PlantData) where
  -- what a panel's session has done in actions
  past_in : (actions : List Action) → AreSessions plant actions → ℕ → Progress
  past_in actions sessions panel = record { turns = (sessions panel).fits.turns; now = unstarted; sent = sent_of panel actions }

  -- One action more that is a turn: it is worked behind what the panel's session has done.
  worked_turn : (front : List Action) (state : State) (panel : ℕ) (piece sent : List ℕ) (entries : List PlantEntry) (sessions : AreSessions plant front) → All (IsBy panel) entries
      → IsLegal step Fits state entries
      → AreSessions plant (front ++ Turned panel piece entries sent ∷ [])
      → (turn : Turn) × (turn.piece ≡ piece) × (entries_in turn ≡ entries) × IsWorked step Fits plant panel (past_in front sessions panel) state turn sent
  unfolding past_in
  worked_turn front state panel piece sent entries sessions by legal sessions_then =
      let action : Action = Turned panel piece entries sent in
      let base = sessions panel in
      let more = sessions_then panel in
      let pieces_are : pieces_of panel (front ++ action ∷ []) ≡ pieces_of panel front ++ piece ∷ [] =
      flat_map-push (piece_in panel) front action ∙ ap (λ (b : Bool). pieces_of panel front ++ cond b (piece ∷ []) []) (eq-eqb panel panel refl) in
      let sent_is : sent_of panel (front ++ action ∷ []) ≡ sent_of panel front ++ sent =
      flat_map-push (sent_in panel) front action ∙ ap (λ (b : Bool). sent_of panel front ++ cond b sent []) (eq-eqb panel panel refl) in
      let entries_are : session_in panel (history_of (front ++ action ∷ [])) ≡ entries_of_turns base.fits.turns ++ entries =
      ap (session_in panel) (flat_map-push entries_by front action) ∙ session-append panel (history_of front) entries
      ∙ (λ i. sym base.fits.entries_are i ++ session-own panel entries by i) in
      let next = next_turn panel base.fits.turns more.fits.turns piece entries base.fits.are_turns more.fits.are_turns
      (more.fits.pieces ∙ pieces_are ∙ ap (λ (pieces : List (List ℕ)). pieces ++ piece ∷ []) (sym base.fits.pieces)) (more.fits.entries_are ∙ entries_are) in
      let bytes_are : flat_map (λ (piece : List ℕ). piece) (pieces_of panel (front ++ action ∷ [])) ≡ bytes_read base.fits.turns ++ next.0.piece =
      ap (flat_map (λ (piece : List ℕ). piece)) (pieces_are ∙ (λ i. sym base.fits.pieces i ++ sym next.1 i ∷ []))
      ∙ flat_map-push (λ (piece : List ℕ). piece) (map (λ (turn : Turn). turn.piece) base.fits.turns) next.0.piece
      ∙ ap (λ (bytes : List ℕ). bytes ++ next.0.piece) (flat_map-map (λ (piece : List ℕ). piece) (λ (turn : Turn). turn.piece) base.fits.turns) in
      let Legal : List PlantEntry → Type 0 = λ entries. IsLegal step Fits state entries in
      let Seated : List PlantEntry → Type 0 = λ entries. All (λ entry. entry.seat ≡ panel) entries in (
        next.0,
        next.1,
        next.2,
        record {
          is_turn = next.3;
          seats = subst Seated (sym next.2) (λ k d below. (by k d below).0);
          legal = subst Legal (sym next.2) legal;
          text = text-as plant _ _ _ _ _ _ bytes_are (entries_are ∙ ap (λ (l : List PlantEntry). entries_of_turns base.fits.turns ++ l) (sym next.2)) sent_is more.text;
        },
      )

  -- So two such actions with one piece are the same.
  one_entries : (front : List Action) (state : State) (panel : ℕ) (piece sent more : List ℕ) (entries others : List PlantEntry) → AreSessions plant front → All (IsBy panel) entries
      → All (IsBy panel) others
      → IsLegal step Fits state entries → IsLegal step Fits state others
      → AreSessions plant (front ++ Turned panel piece entries sent ∷ []) → AreSessions plant (front ++ Turned panel piece others more ∷ [])
      → Turned panel piece entries sent ≡ Turned panel piece others more
  one_entries front state panel piece sent more entries others sessions by by' legal legal' sessions_then sessions_then' =
      let one = worked_turn front state panel piece sent entries sessions by legal sessions_then in
      let other = worked_turn front state panel piece more others sessions by' legal' sessions_then' in
      let same = one_turn_lem step Fits plant panel (past_in front sessions panel) state one.0 other.0 sent more one.3 other.3 (one.1 ∙ sym other.1) in
      λ i. Turned panel piece ((sym one.2 ∙ ap entries_in same.0 ∙ other.2) i) (same.1 i)

  -- Behind the same actions one work is done by one action.
  one_action : (front : List Action) (state : State) (action other : Action) → work_of action ≡ work_of other → AreSessions plant front → IsSeated action → IsSeated other
      → IsLegal step Fits state (entries_by action) → IsLegal step Fits state (entries_by other)
      → AreSessions plant (front ++ action ∷ []) → AreSessions plant (front ++ other ∷ []) → action ≡ other
  one_action front state (Left panel) (Left leaver) same sessions seated seated' legal legal' sessions_then sessions_then' = let here : panel ≡ leaver = cc in ap Left here
  one_action front state (Polled screen refresh answers) (Polled other again others) same sessions seated seated' legal legal' sessions_then sessions_then' =
      let here : screen ≡ other = cc in
      let way : refresh ≡ again = cc in
      let told : answers ≡ others = legal.1 ∙ (λ i. (step state (requests.DisplayPoll (here i) (way i))).answers) ∙ sym legal'.1 in
      λ i. Polled (here i) (way i) (told i)
  one_action front state (Turned panel piece entries sent) (Turned reader other others more) same sessions seated seated' legal legal' sessions_then sessions_then' =
      let here : reader ≡ panel = cc in
      let read : other ≡ piece = cc in
      let turned : Turned reader other others more ≡ Turned panel piece others more = λ i. Turned (here i) (read i) others more in
      let Behind : Action → Type 0 = λ action. AreSessions plant (front ++ action ∷ []) in
      one_entries front state panel piece sent more entries others sessions seated (subst IsSeated turned seated') legal legal' sessions_then (subst Behind turned sessions_then') ∙ sym turned
  one_action front state action other same sessions seated seated' legal legal' sessions_then sessions_then' = absurd cc

  -- The same works are done by the same actions.
  one_actions : (actions others front : List Action) (state : State) → map work_of actions ≡ map work_of others → All IsSeated actions → All IsSeated others
      → IsLegal step Fits state (history_of actions) → IsLegal step Fits state (history_of others)
      → ((before after : List Action) → actions ≡ before ++ after → AreSessions plant (front ++ before)) → ((before after : List Action) → others ≡ before ++ after → AreSessions plant (front ++ before))
      → actions ≡ others
  one_actions [] [] front state same seated seated' legal legal' each each' = refl
  one_actions [] (other ∷ others) front state same seated seated' legal legal' each each' = absurd cc
  one_actions (action ∷ actions) [] front state same seated seated' legal legal' each each' = absurd cc
  one_actions (action ∷ actions) (other ∷ others) front state same seated seated' legal legal' each each' =
      let works : work_of action ≡ work_of other = cc in
      let tail : map work_of actions ≡ map work_of others = cc in
      let first = one_action front state action other works (subst (AreSessions plant) (append-nil front) (each [] (action ∷ actions) refl))
      (All-head IsSeated action actions seated) (All-head IsSeated other others seated')
      (legal_front step Fits state (entries_by action) (history_of actions) legal) (legal_front step Fits state (entries_by other) (history_of others) legal')
      (each (action ∷ []) actions refl) (each' (other ∷ []) others refl) in
      let LegalBehind : Action → Type 0 = λ action. IsLegal step Fits (run step state (entries_by action)) (history_of others) in
      let later = one_actions actions others (front ++ action ∷ []) (run step state (entries_by action)) tail (All-tail IsSeated action actions seated) (All-tail IsSeated other others seated')
      (legal_later step Fits state (entries_by action) (history_of actions) legal) (subst LegalBehind (sym first) (legal_later step Fits state (entries_by other) (history_of others) legal'))
      (λ before after is. subst (AreSessions plant) (sym (append_assoc front (action ∷ []) before)) (each (action ∷ before) after (ap (λ (l : List Action). action ∷ l) is)))
      (λ before after is. subst (AreSessions plant) (ap (λ (action : Action). front ++ action ∷ before) (sym first) ∙ sym (append_assoc front (action ∷ []) before))
      (each' (other ∷ before) after (ap (λ (l : List Action). other ∷ l) is))) in
      λ i. first i ∷ later i

  -- There is one history, whatever text it is of,
  pub one_history : (script a b : List ℕ) (actions others : List Action) → IsHistory plant script a actions → IsHistory plant script b others → actions ≡ others
  one_history script a b actions others one other =
      one_actions actions others [] (start plant) (one_spelling plant (worked (lines script)) (map work_of actions) (map work_of others) one.spelled other.spelled)
      one.seated other.seated one.legal other.legal one.each other.each

  -- and its text is the replay text.
  pub history-replay : (script output : List ℕ) (actions : List Action) → IsHistory plant script output actions → IsReplay plant script output
  history-replay script output actions history = elim (always plant script) [
    | inl made ↦
        let has = history_exists plant script made.0 made.1 in
        let same = one_history script made.0 output has.0 actions has.1 history in
        subst (IsReplay plant script) (has.1.shown ∙ ap (flat_map (line_of plant)) same ∙ sym history.shown) made.1
    | inr bad ↦ absurd (none_bad plant script (map work_of actions) bad.0 history.spelled bad.1)
  ]
