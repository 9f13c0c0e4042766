-- What a service that ends with 0 has done.
use Rattle.std.proofs.Common.{◌≡◌, ◌≢◌, inl, inr, ℕ, suc, ◌+◌, Bool, true, false, List, [], ◌∷◌, ◌++◌, length, map, filter, Option, Some, None, Result, Ok, Err, refl, sym, ◌∙◌, ap, subst, arith}
use Rattle.std.specs.Prelude.{All, if◌then◌else◌, sum_by}
use Rattle.std.proofs.lemmas.Bool.{false≢true}
use Rattle.std.proofs.lemmas.List.{append-nil}
use Rattle.std.proofs.lemmas.List.Elements.{All-nil, All-cons, All-head, All-tail, All-weaker}
use Rattle.ctl_io.specs.Sink.{appended}
use Rattle.history_lock.specs.History.{run, IsLegal}
use Rattle.history_lock.specs.Locks.{LockData}
use Rattle.plant_config.specs.Plant.{PlantData}
use Rattle.plant_config.specs.IsPlant.{IsPlant}
use Rattle.plant_core.specs.DisplayLaws.{IsOfLit, LampsAreOfThoseThatDiffer}
use Rattle.plant_core.specs.Displays.{refreshed, value_of}
use Rattle.plant_core.specs.HistoryLaws.{HistoriesKeepTiesValid, HistoriesStayValid}
use Rattle.plant_core.specs.Laws.{StartsAreValid}
use Rattle.plant_core.specs.State.{State, start, Fits as Takes}
use Rattle.plant_core.specs.Step.{step}
use Rattle.plant_core.specs.declared.answer.Answer.{Answer}
use Rattle.plant_core.specs.declared.answer.Answer.TheVariants.{Lamp}
use Rattle.plant_core.specs.declared.request.Request.{Request}
use Rattle.plant_core.specs.declared.request.Request.TheVariants.{DisplayPoll}
use Rattle.panel_session.specs.Entry.{PlantEntry}
use Rattle.panel_session.specs.Served.{TraceData}
use Rattle.panel_server.specs.declared.displays.DriverEnd.{DriverEnd}
use Rattle.panel_server.specs.declared.displays.DriverEnd.TheVariants as drivers
use Rattle.panel_server.specs.declared.plant.PlantDone.{PlantDone}
use Rattle.panel_server.specs.Driven.{ends_by_trace}
use Rattle.panel_server.specs.PlantServed.{DisplayRun, NetData, PanelRun, PlantServed, ServedSo, ends_full, ends_unborn, first_true, lost_at, trace_failures}
use Rattle.panel_server.specs.TracesShare.{TracesShareHistory}
use Rattle.panel_server.proofs.AnswerLemmas.{legal_behind}
use Rattle.command_words.specs.Parts.{Prefix, AllSaid}
use Rattle.command_rows.specs.Moment.{Snapshot, Moment}
use Rattle.command_serve.specs.Traces.{names_for, trace_names}
use Rattle.command_serve.specs.Serve.{parts, served_lines, Telling, ServeEnd, AllWell, Unserved, NetRefused, Served, name_at, answered_end, NeverFail, EndsServed}
use Rattle.command_serve.specs.Laws.{CameOf, WasServed}
use Rattle.command_serve.specs.Whole.{IsPanelWhole, TellsItsValue, LampsAreFound, WasServedWhole, ZeroServesWhole}
use Rattle.command_serve.proofs.ServeLemmas.{names-length}
use Rattle.command_serve.proofs.CameLemmas.{Came, came}
use Rattle.command_serve.proofs.LawLemmas.{zero as zero_served}
use Rattle.command_serve.proofs.PanelWholeLemmas.{none_so, sum_none, none_failed, none_first, unfailed, well_told, panel_whole}

-- which kind of end it is, and what it has
abbrev kind : ServeEnd → ℕ
kind (Unserved end) = 0
kind NetRefused = 1
kind (Served sessions entries telling) = 2

abbrev its_telling : ServeEnd → Telling
its_telling (Served sessions entries telling) = telling
its_telling other = AllWell

abbrev its_entries : ServeEnd → ℕ
its_entries (Served sessions entries telling) = entries
its_entries other = 0

-- whether it ended by the limit of the history, as a count
abbrev full_count : DriverEnd → ℕ
full_count end = if ends_full end then 1 else 0

one_none : ◌≡◌ {A = ℕ} 1 0 → ⊥
one_none is = omega (arith, is)

-- the worker of the displays finished, and lost nothing
driver_end : (end : DriverEnd) → ends_by_trace end ≡ false → full_count end ≡ 0 → ends_unborn end ≡ false → lost_at end ≡ 0 → (sent : ℕ) × (end ≡ drivers.Finished sent 0)
driver_end (drivers.Finished sent failed) trace full born lost = (sent, ap (drivers.Finished sent) lost)
driver_end drivers.TraceFault trace full born lost = absurd (false≢true (sym trace))
driver_end drivers.Full trace full born lost = absurd (one_none full)
driver_end drivers.NoMemory trace full born lost = absurd (false≢true (sym born))

-- lamps

same_value : (state : State) (screen display : ℕ) (refresh : Bool) → value_of (refreshed state screen refresh) display ≡ value_of state display
same_value state screen display true = refl
same_value state screen display false = refl

tells_value : (state new : State) (screen : ℕ) (refresh : Bool) (answer : Answer) → IsOfLit (refreshed state screen refresh) new screen answer → TellsItsValue state answer
tells_value state new screen refresh (Lamp display value) is = is.told ∙ same_value state screen display refresh
tells_value state new screen refresh other is = tt

lamps_found : StartsAreValid → HistoriesStayValid → LampsAreOfThoseThatDiffer → (plant : PlantData) (history : List PlantEntry) → IsPlant plant → IsLegal step Takes (start plant) history → LampsAreFound plant history
lamps_found starts stay lit plant history is_plant legal front later entry place screen refresh asked =
    let state : State = run step (start plant) front in
    let here = legal_behind (start plant) front (entry ∷ later) (subst (IsLegal step Takes (start plant)) place legal) in
    let answered : entry.answers ≡ (step state (DisplayPoll screen refresh)).answers = here.1 ∙ ap (λ (request : Request). (step state request).answers) asked in
    let polled = step state (DisplayPoll screen refresh) in
    let lamps = lit state screen refresh (stay (start plant) front (starts plant is_plant)) in
    subst (All (TellsItsValue state)) (sym answered)
    (All-weaker (IsOfLit (refreshed state screen refresh) polled.state screen) (TellsItsValue state) (λ answer is. tells_value state polled.state screen refresh answer is) polled.answers lamps)

abbrev IsUnfailed : Bool → Type 0
IsUnfailed failed = failed ≡ false

abbrev IsSilent : TraceData → Type 0
IsSilent trace = trace.faults ≡ 0

module _ {P : Type 0} (WasSent : P → List (List ℕ) → Type 0) (faults : P → ℕ) where
  module _ {plant : PlantData} {lock : LockData State} {past : List PlantEntry} where
    abbrev NoLinkFault : PanelRun plant lock past → Type 0
    NoLinkFault run = run.done.link_faults ≡ 0

    abbrev NoLimits : PanelRun plant lock past → Type 0
    NoLimits run = run.done.limits ≡ 0

    abbrev NoneRefused : PanelRun plant lock past → Type 0
    NoneRefused run = run.done.refused ≡ false

    panels_whole : (panels : List (PanelRun plant lock past)) (displays : DisplayRun WasSent faults plant lock past) → All NoLinkFault panels → All NoLimits panels → All NoneRefused panels
        → All IsUnfailed (trace_failures panels displays) → All IsPanelWhole panels
    panels_whole [] displays link limit refused failed = All-nil IsPanelWhole
    panels_whole (run ∷ later) displays link limit refused failed =
        All-cons IsPanelWhole run later
        (panel_whole run (All-head NoLinkFault run later link) (All-head NoLimits run later limit) (All-head NoneRefused run later refused)
        (All-head IsUnfailed run.done.trace_failed (trace_failures later displays) failed))
        (panels_whole later displays (All-tail NoLinkFault run later link) (All-tail NoLimits run later limit) (All-tail NoneRefused run later refused)
        (All-tail IsUnfailed run.done.trace_failed (trace_failures later displays) failed))

    displays_unfailed : (panels : List (PanelRun plant lock past)) (displays : DisplayRun WasSent faults plant lock past) → All IsUnfailed (trace_failures panels displays) → ends_by_trace displays.end ≡ false
    displays_unfailed [] displays failed = All-head IsUnfailed (ends_by_trace displays.end) [] failed
    displays_unfailed (run ∷ later) displays failed = displays_unfailed later displays (All-tail IsUnfailed run.done.trace_failed (trace_failures later displays) failed)

    -- traces that never fail have no failure
    silent : (panels : List (PanelRun plant lock past)) (displays : DisplayRun WasSent faults plant lock past) → All IsSilent (map (λ run. run.trace_then) panels ++ displays.trace_then ∷ [])
        → All IsUnfailed (trace_failures panels displays)
    silent [] displays none =
        All-cons IsUnfailed (ends_by_trace displays.end) []
        (unfailed (ends_by_trace displays.end) displays.trace.faults displays.trace_then.faults displays.driven.trace_count (All-head IsSilent displays.trace_then [] none)) (All-nil IsUnfailed)
    silent (run ∷ later) displays none =
        let rest = map (λ (other : PanelRun plant lock past). other.trace_then) later ++ displays.trace_then ∷ [] in
        All-cons IsUnfailed run.done.trace_failed (trace_failures later displays)
        (unfailed run.done.trace_failed run.trace.faults run.trace_then.faults run.served.trace_count (All-head IsSilent run.trace_then rest none))
        (silent later displays (All-tail IsSilent run.trace_then rest none))

    failures-length : (panels : List (PanelRun plant lock past)) (displays : DisplayRun WasSent faults plant lock past) → length (trace_failures panels displays) ≡ length panels + 1
    failures-length [] displays = refl
    failures-length (run ∷ later) displays =
        let more : length (trace_failures (run ∷ later) displays) ≡ suc (length (trace_failures later displays)) = refl in
        let longer : length (run ∷ later) ≡ suc (length later) = refl in
        omega (arith, more, longer, failures-length later displays)

  -- no write of a trace failed where none is told of
  nothing_failed : (prefix : Option (List ℕ)) (plant : PlantData) (past : List PlantEntry) (net net_then : NetData P) (traces traces_then : List TraceData)
      (served : PlantServed WasSent faults plant past net net_then traces traces_then) (failed : Option ℕ) → NeverFail prefix traces_then → failed ≡ first_true 0 (trace_failures served.panels served.displays)
      → name_at (names_for prefix (length plant.panels)) failed ≡ None → All (λ failed. failed ≡ false) (trace_failures served.panels served.displays)
  nothing_failed None plant past net net_then traces traces_then served failed never is unnamed =
      silent served.panels served.displays (subst (All (λ (trace : TraceData). trace.faults ≡ 0)) served.traces_are never)
  nothing_failed (Some prefix) plant past net net_then traces traces_then served failed never is unnamed =
      let failures = trace_failures served.panels served.displays in
      let long : length (trace_names prefix (length plant.panels)) ≡ length failures =
      omega (arith, names-length prefix (length plant.panels), failures-length served.panels served.displays, served.counted) in
      none_failed 0 failures (sym is ∙ none_first (trace_names prefix (length plant.panels)) failed failures long is unnamed)

  module _ (starts : StartsAreValid) (stay : HistoriesStayValid) (ties : HistoriesKeepTiesValid) (lit : LampsAreOfThoseThatDiffer) (share : TracesShareHistory WasSent faults) where
    whole_of : (said : AllSaid parts Prefix) (before now : Moment) (net net_then : NetData P) (was : WasServed WasSent faults said AllWell before now net net_then)
        (ends : EndsServed WasSent faults was.came.plant said.1 was.came.opened now.files net net_then (Served was.sessions was.entries AllWell)) (done : PlantDone)
        → ServedSo WasSent faults was.came.plant net net_then ends.traces ends.traces_then (Ok done)
        → Served was.sessions was.entries AllWell ≡ answered_end (names_for said.1 (length was.came.plant.panels)) (Ok done) → WasServedWhole WasSent faults said before now net net_then
    whole_of said before now net net_then was ends done so is =
        let plant = was.came.plant in
        let names = names_for said.1 (length plant.panels) in
        let told = well_told (name_at names done.failed_trace) done.net_faults done.limits (sym (ap its_telling is)) in
        let failed = nothing_failed said.1 plant done.past net net_then ends.traces ends.traces_then so.served done.failed_trace ends.silent so.counted.failed_trace told.0 in
        let panels = so.served.panels in
        let displays = so.served.displays in
        let no_links : sum_by (λ (one : PanelRun plant so.served.lock done.past). one.done.link_faults) panels ≡ 0 = omega (arith, so.counted.net_faults, told.1) in
        let none_refused : length (filter (λ (one : PanelRun plant so.served.lock done.past). one.done.refused) panels) ≡ 0 = omega (arith, so.counted.net_faults, told.1) in
        let none_lost : lost_at displays.end ≡ 0 = omega (arith, so.counted.net_faults, told.1) in
        let limit_sum : done.limits ≡ sum_by (λ (one : PanelRun plant so.served.lock done.past). one.done.limits) panels + full_count displays.end = so.counted.limits in
        let no_limits : sum_by (λ (one : PanelRun plant so.served.lock done.past). one.done.limits) panels ≡ 0 = omega (arith, limit_sum, told.2) in
        let not_full : full_count displays.end ≡ 0 = omega (arith, limit_sum, told.2) in
        let finished = driver_end displays.end (displays_unfailed panels displays failed) not_full so.driven none_lost in
        let counted : was.entries ≡ length done.past = ap its_entries is ∙ so.counted.entries in
        let appends = was.came.appends ∙ ap (appended before.output.written) (append-nil (served_lines was.sessions was.entries)) in
        record {
          plant = plant;
          opened = was.came.opened;
          lead = was.came.lead;
          history = done.past;
          traces = ends.traces;
          traces_then = ends.traces_then;
          served = so.served;
          panels = panels_whole panels displays (sum_none (λ (one : PanelRun plant so.served.lock done.past). one.done.link_faults) panels no_links) (sum_none (λ (one : PanelRun plant so.served.lock done.past). one.done.limits) panels no_limits)
              (none_so (λ (one : PanelRun plant so.served.lock done.past). one.done.refused) panels none_refused) failed;
          sent = finished.0;
          displays = finished.1;
          ties = ties plant done.past ends.plant_is;
          lamps = lamps_found starts stay lit plant done.past ends.plant_is so.served.legal;
          new = ends.new;
          shared = share plant done.past net net_then ends.traces ends.traces_then so.served failed;
          back = ends.back;
          named = ends.named;
          those = ends.those;
          made = ends.made;
          takes = ends.takes;
          sessions = was.sessions;
          appends = appends ∙ ap (λ (count : ℕ). appended before.output.written (served_lines was.sessions count)) counted;
        }

    came_whole : (said : AllSaid parts Prefix) (before now : Moment) (net net_then : NetData P) (was : WasServed WasSent faults said AllWell before now net net_then)
        → Came WasSent faults was.came.plant said.1 was.came.opened now.files net net_then (Served was.sessions was.entries AllWell) → WasServedWhole WasSent faults said before now net net_then
    came_whole said before now net net_then was (inl is) = absurd (let h = ap kind is in omega arith)
    came_whole said before now net net_then was (inr (inl (untouched, trace))) = absurd (let h = ap kind trace.end_is in omega arith)
    came_whole said before now net net_then was (inr (inr (inl (is, rose)))) = absurd (let h = ap kind is in omega arith)
    came_whole said before now net net_then was (inr (inr (inr (ends, done, so, is)))) = whole_of said before now net net_then was ends done so is

    pub zero_whole : ZeroServesWhole WasSent faults
    zero_whole said before now net net_then serves =
        let was = zero_served WasSent faults said before now net net_then serves in
        came_whole said before now net net_then was
        (came WasSent faults was.came.plant said.1 was.came.opened now.files net net_then (Served was.sessions was.entries AllWell) was.came.ends)
