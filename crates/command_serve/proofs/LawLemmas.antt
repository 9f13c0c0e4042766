-- Why services end with their statuses.
use Rattle.std.proofs.Common.{◌≡◌, ◌≢◌, ◌⊎◌, inl, inr, ℕ, ◌<◌, Bool, true, false, List, [], ◌∷◌, length, Option, Some, None, Result, Ok, Err, refl, sym, ◌∙◌, ap, subst, arith}
use Rattle.std.specs.Prelude.{MatchBool}
use Rattle.ctl_io.specs.Faults.{Rose, one_more}
use Rattle.ctl_io.specs.Sink.{appended}
use Rattle.plant_config.specs.Plant.{PlantData}
use Rattle.panel_session.specs.Served.{TraceData}
use Rattle.panel_server.specs.PlantServed.{NetData, ServedSo}
use Rattle.panel_server.specs.declared.plant.PlantDone.{PlantDone}
use Rattle.panel_server.specs.declared.plant.ServeFault.{ServeFault}
use Rattle.panel_server.specs.declared.plant.ServeFault.TheVariants as answers
use Rattle.command_words.specs.Parts.{Prefix, AllSaid}
use Rattle.command_rows.specs.Moment.{Snapshot, Moment}
use Rattle.command_rows.specs.End.{End, Stopped, NoMemory, FileMissing, FileFault, PlantRefused, PlantTooLong, TooLong, file_failed, out_of_memory, stopped_end, IsWritten}
use Rattle.command_rows.specs.OpensPlant.{FindsPlant, IsBench, OpensFile, is_bench}
use Rattle.command_rows.specs.Opener.{AllGiven, AllLead}
use Rattle.command_rows.specs.Row.{RowRuns, EndsOpened}
use Rattle.command_rows.specs.RowLaws.{CouldNotWrite, WasStopped}
use Rattle.command_rows.specs.Sound.{IsOneOf}
use Rattle.command_rows.proofs.OpenerLemmas.{counts}
use Rattle.command_rows.proofs.RowLawsLemmas.{written_or}
use Rattle.command_serve.specs.Traces.{names_for}
use Rattle.command_serve.specs.Serve.{parts, Telling, AllWell, TraceFailed, NetFailed, LimitsMet, ServeEnd, Unserved, NetRefused, Served, telling_of, name_at, answered_end, serve_end, EndsAtTrace, EndsServed, PlantServiceEnds, ServeRow, IsEndOf}
use Rattle.command_serve.specs.Laws.{Serves, ServicesAreRows, CameOf, WasServed, WasNotOpened, MakesNoTrace, TellsService, ServiceHasCause, ServicesHaveCauses, ZeroHasServed, EightHasCause, NineMetLimits, ServiceStatusesAreKnown, RefusedNetEndsWithEight}
use Rattle.command_serve.proofs.TraceSinkLemmas.{fails_at-faults}
use Rattle.command_serve.proofs.CameLemmas.{telling_status, all_well, net_told, limits_told, by_found, by_net, came_written, Came, came}

-- no plant's word leads to a status of a service
early_stop : (stopped : Stopped) (status : ℕ) → status ≡ (stopped_end stopped).status → (status ≡ 1) ⊎ (status ≡ 3) ⊎ (status ≡ 4) ⊎ (status ≡ 5)
early_stop NoMemory status is = inl is
early_stop (FileMissing name) status is = inr (inl is)
early_stop (FileFault name) status is = inr (inl is)
early_stop (PlantRefused why) status is = inr (inr (inl is))
early_stop PlantTooLong status is = inr (inr (inl is))
early_stop (TooLong word) status is = inr (inr (inr is))

not_stopped : {A : Type 0} (stopped : Stopped) (status : ℕ) → status ≡ (stopped_end stopped).status → (status ≡ 1 → ⊥) → (status ≡ 3 → ⊥) → (status ≡ 4 → ⊥) → (status ≡ 5 → ⊥) → A
not_stopped stopped status is one three four five = absurd (elim (early_stop stopped status is) [ inl h ↦ one h | inr (inl h) ↦ three h | inr (inr (inl h)) ↦ four h | inr (inr (inr h)) ↦ five h ])

module _ {P : Type 0} (WasSent : P → List (List ℕ) → Type 0) (faults : P → ℕ) where
  pub are_rows : ServicesAreRows WasSent faults
  are_rows said before now net net_then status (inl stop) = inl stop.1
  are_rows said before now net net_then status (inr done) = inr done

  -- A service whose plant was opened, and all of whose text was written.
  record Told (said : AllSaid parts Prefix) (before now : Moment) (net net_then : NetData P) (status : ℕ) : Type 0 where
    plant : PlantData
    opened : Snapshot
    lead : AllLead parts Prefix said before.files opened (Ok (plant, said.1))
    served : ServeEnd
    ends : PlantServiceEnds WasSent faults plant said.1 opened now.files net net_then served
    end : End
    of : IsEndOf served end
    written : IsWritten end status before.output now.output

  told_of : (said : AllSaid parts Prefix) (before now : Moment) (net net_then : NetData P) (status : ℕ) (done : EndsOpened parts Prefix (ServeRow WasSent faults net net_then) said before now status)
      → IsWritten done.ends.end status before.output now.output → Told said before now net net_then status
  told_of said before now net net_then status done written =
      let same = done.lead.others.0 in
      record {
        plant = done.given.0;
        opened = done.opened;
        lead = subst (λ (p : Option (List ℕ)). AllLead parts Prefix said before.files done.opened (Ok (done.given.0, p))) same done.lead;
        served = done.ends.ends.0;
        ends = subst (λ (p : Option (List ℕ)). PlantServiceEnds WasSent faults done.given.0 p done.opened now.files net net_then done.ends.ends.0) same done.ends.ends.1;
        end = done.ends.end;
        of = done.ends.ends.2;
        written = written;
      }

  -- how a service ended: at the plant's word, behind it, or with a write that failed
  abbrev How : AllSaid parts Prefix → Moment → Moment → NetData P → NetData P → ℕ → Type 0
  How said before now net net_then status = ((net_then ≡ net) × WasStopped parts Prefix said before now status) ⊎ Told said before now net net_then status ⊎ CouldNotWrite before now status

  how : (said : AllSaid parts Prefix) (before now : Moment) (net net_then : NetData P) (status : ℕ) → Serves WasSent faults said before now net net_then status → How said before now net net_then status
  how said before now net net_then status (inl (untouched, stop)) = elim (written_or (stopped_end stop.stopped) status before now stop.comes) [
    | inl written ↦ inl (untouched, record { stopped = stop.stopped; lead = stop.lead; written = written })
    | inr cut ↦ inr (inr cut)
  ]
  how said before now net net_then status (inr done) = elim (written_or done.ends.end status before now done.ends.comes) [
    | inl written ↦ inr (inl (told_of said before now net net_then status done written))
    | inr cut ↦ inr (inr cut)
  ]

  -- what came of it, with its text
  came_of : (said : AllSaid parts Prefix) (before now : Moment) (net net_then : NetData P) (status : ℕ) (told : Told said before now net net_then status) (its : ServeEnd) → told.served ≡ its
      → CameOf WasSent faults said its before now net net_then
  came_of said before now net net_then status told its is = record {
    plant = told.plant;
    opened = told.opened;
    lead = told.lead;
    ends = subst (λ (s : ServeEnd). PlantServiceEnds WasSent faults told.plant said.1 told.opened now.files net net_then s) is told.ends;
    appends = (came_written told.served its told.end status before.output now.output told.of is told.written).appends;
  }

  -- the files' count where the plant was opened
  opened_count : (said : AllSaid parts Prefix) (before : Snapshot) (opened : Snapshot) (plant : PlantData) → AllLead parts Prefix said before opened (Ok (plant, said.1)) → opened.faults ≡ before.faults
  opened_count said before opened plant lead = counts parts Prefix said before opened (Ok (plant, said.1)) lead

  by_came : (said : AllSaid parts Prefix) (before now : Moment) (net net_then : NetData P) (status : ℕ) (told : Told said before now net net_then status)
      → Came WasSent faults told.plant said.1 told.opened now.files net net_then told.served → ServiceHasCause WasSent faults said before now net net_then status
  by_came said before now net net_then status told (inl is) =
      inr (inl (
        (came_written told.served (Unserved out_of_memory) told.end status before.output now.output told.of is told.written).status_is,
        came_of said before now net net_then status told (Unserved out_of_memory) is,
      ))
  by_came said before now net net_then status told (inr (inl (untouched, trace))) =
      let wrote = came_written told.served (Unserved (file_failed trace.fails.stops.name)) told.end status before.output now.output told.of trace.end_is told.written in
      inr (inr (inl (
        wrote.status_is,
        record {
          plant = told.plant;
          opened = told.opened;
          lead = told.lead;
          place = trace.place;
          name = trace.fails.stops.name;
          at = trace.fails.stops.at;
          untouched = untouched;
          count_is = fails_at-faults _ trace.place told.opened now.files trace.fails ∙ ap one_more (opened_count said before.files told.opened told.plant told.lead);
          appends = wrote.appends;
        },
      )))
  by_came said before now net net_then status told (inr (inr (inl (is, rose)))) =
      inr (inr (inr (inl (
        (came_written told.served NetRefused told.end status before.output now.output told.of is told.written).status_is,
        record { came = came_of said before now net net_then status told NetRefused is; rose = rose },
      ))))
  by_came said before now net net_then status told (inr (inr (inr (ends, done, so, is)))) =
      let names = names_for said.1 (length told.plant.panels) in
      let wrote = came_written told.served (answered_end names (Ok done)) told.end status before.output now.output told.of is told.written in
      inr (inr (inr (inr (inl (record {
        plant = told.plant;
        opened = told.opened;
        lead = told.lead;
        traces = ends.traces;
        traces_then = ends.traces_then;
        done = done;
        served = so;
        tells = by_found names done status (name_at names done.failed_trace) refl wrote.status_is;
      })))))

  pub have_causes : ServicesHaveCauses WasSent faults
  have_causes said before now net net_then status serves = elim (how said before now net net_then status serves) [
    | inl (untouched, stop) ↦ inl (untouched, stop)
    | inr (inl told) ↦ by_came said before now net net_then status told (came WasSent faults told.plant said.1 told.opened now.files net net_then told.served told.ends)
    | inr (inr cut) ↦ inr (inr (inr (inr (inr cut))))
  ]

  -- what is told of a plant that was served
  served_so : (said : AllSaid parts Prefix) (before now : Moment) (net net_then : NetData P) (status : ℕ) (told : Told said before now net net_then status) (done : PlantDone) (telling : Telling)
      → told.served ≡ answered_end (names_for said.1 (length told.plant.panels)) (Ok done)
      → telling_of (name_at (names_for said.1 (length told.plant.panels)) done.failed_trace) done.net_faults done.limits ≡ telling → WasServed WasSent faults said telling before now net net_then
  served_so said before now net net_then status told done telling is same = record {
    sessions = done.sessions;
    entries = done.entries;
    came = came_of said before now net net_then status told (Served done.sessions done.entries telling) (is ∙ ap (Served done.sessions done.entries) same);
  }

  -- the telling by its status
  telling_is : (said : AllSaid parts Prefix) (before now : Moment) (net net_then : NetData P) (status : ℕ) (told : Told said before now net net_then status) (done : PlantDone)
      → told.served ≡ answered_end (names_for said.1 (length told.plant.panels)) (Ok done)
      → telling_status (telling_of (name_at (names_for said.1 (length told.plant.panels)) done.failed_trace) done.net_faults done.limits) ≡ status
  telling_is said before now net net_then status told done is =
      sym (came_written told.served (answered_end (names_for said.1 (length told.plant.panels)) (Ok done)) told.end status before.output now.output told.of is told.written).status_is

  zero_came : (said : AllSaid parts Prefix) (before now : Moment) (net net_then : NetData P) (told : Told said before now net net_then 0) → Came WasSent faults told.plant said.1 told.opened now.files net net_then told.served
      → WasServed WasSent faults said AllWell before now net net_then
  zero_came said before now net net_then told (inl is) =
      absurd (let h = (came_written told.served (Unserved out_of_memory) told.end 0 before.output now.output told.of is told.written).status_is in omega (arith, h))
  zero_came said before now net net_then told (inr (inl (untouched, trace))) =
      absurd (let h = (came_written told.served (Unserved (file_failed trace.fails.stops.name)) told.end 0 before.output now.output told.of trace.end_is told.written).status_is in omega (arith, h))
  zero_came said before now net net_then told (inr (inr (inl (is, rose)))) =
      absurd (let h = (came_written told.served NetRefused told.end 0 before.output now.output told.of is told.written).status_is in omega (arith, h))
  zero_came said before now net net_then told (inr (inr (inr (ends, done, so, is)))) =
      served_so said before now net net_then 0 told done AllWell is
      (all_well (telling_of (name_at (names_for said.1 (length told.plant.panels)) done.failed_trace) done.net_faults done.limits) (telling_is said before now net net_then 0 told done is))

  pub zero : ZeroHasServed WasSent faults
  zero said before now net net_then serves = elim (how said before now net net_then 0 serves) [
    | inl (untouched, stop) ↦ not_stopped stop.stopped 0 stop.written.status_is (λ h. omega (arith, h)) (λ h. omega (arith, h)) (λ h. omega (arith, h)) (λ h. omega (arith, h))
    | inr (inl told) ↦ zero_came said before now net net_then told (came WasSent faults told.plant said.1 told.opened now.files net net_then told.served told.ends)
    | inr (inr cut) ↦ absurd (let h = cut.0 in omega (arith, h))
  ]

  nine_came : (said : AllSaid parts Prefix) (before now : Moment) (net net_then : NetData P) (told : Told said before now net net_then 9) → Came WasSent faults told.plant said.1 told.opened now.files net net_then told.served
      → WasServed WasSent faults said LimitsMet before now net net_then
  nine_came said before now net net_then told (inl is) =
      absurd (let h = (came_written told.served (Unserved out_of_memory) told.end 9 before.output now.output told.of is told.written).status_is in omega (arith, h))
  nine_came said before now net net_then told (inr (inl (untouched, trace))) =
      absurd (let h = (came_written told.served (Unserved (file_failed trace.fails.stops.name)) told.end 9 before.output now.output told.of trace.end_is told.written).status_is in omega (arith, h))
  nine_came said before now net net_then told (inr (inr (inl (is, rose)))) =
      absurd (let h = (came_written told.served NetRefused told.end 9 before.output now.output told.of is told.written).status_is in omega (arith, h))
  nine_came said before now net net_then told (inr (inr (inr (ends, done, so, is)))) =
      served_so said before now net net_then 9 told done LimitsMet is
      (limits_told (telling_of (name_at (names_for said.1 (length told.plant.panels)) done.failed_trace) done.net_faults done.limits) (telling_is said before now net net_then 9 told done is))

  pub nine : NineMetLimits WasSent faults
  nine said before now net net_then serves = elim (how said before now net net_then 9 serves) [
    | inl (untouched, stop) ↦ not_stopped stop.stopped 9 stop.written.status_is (λ h. omega (arith, h)) (λ h. omega (arith, h)) (λ h. omega (arith, h)) (λ h. omega (arith, h))
    | inr (inl told) ↦ nine_came said before now net net_then told (came WasSent faults told.plant said.1 told.opened now.files net net_then told.served told.ends)
    | inr (inr cut) ↦ absurd (let h = cut.0 in omega (arith, h))
  ]

  eight_came : (said : AllSaid parts Prefix) (before now : Moment) (net net_then : NetData P) (told : Told said before now net net_then 8) → Came WasSent faults told.plant said.1 told.opened now.files net net_then told.served
      → WasNotOpened WasSent faults said before now net net_then ⊎ (WasServed WasSent faults said NetFailed before now net net_then × Rose net.close_faults net_then.close_faults)
  eight_came said before now net net_then told (inl is) =
      absurd (let h = (came_written told.served (Unserved out_of_memory) told.end 8 before.output now.output told.of is told.written).status_is in omega (arith, h))
  eight_came said before now net net_then told (inr (inl (untouched, trace))) =
      absurd (let h = (came_written told.served (Unserved (file_failed trace.fails.stops.name)) told.end 8 before.output now.output told.of trace.end_is told.written).status_is in omega (arith, h))
  eight_came said before now net net_then told (inr (inr (inl (is, rose)))) = inl (record { came = came_of said before now net net_then 8 told NetRefused is; rose = rose })
  eight_came said before now net net_then told (inr (inr (inr (ends, done, so, is)))) =
      let names = names_for said.1 (length told.plant.panels) in
      let same = net_told (telling_of (name_at names done.failed_trace) done.net_faults done.limits) (telling_is said before now net net_then 8 told done is) in
      inr (served_so said before now net net_then 8 told done NetFailed is same, so.cause (by_net (name_at names done.failed_trace) done.net_faults done.limits same))

  pub eight : EightHasCause WasSent faults
  eight said before now net net_then serves = elim (how said before now net net_then 8 serves) [
    | inl (untouched, stop) ↦ not_stopped stop.stopped 8 stop.written.status_is (λ h. omega (arith, h)) (λ h. omega (arith, h)) (λ h. omega (arith, h)) (λ h. omega (arith, h))
    | inr (inl told) ↦ eight_came said before now net net_then told (came WasSent faults told.plant said.1 told.opened now.files net net_then told.served told.ends)
    | inr (inr cut) ↦ absurd (let h = cut.0 in omega (arith, h))
  ]

  -- the statuses
  word_status : (stopped : Stopped) (before now : Snapshot) (word : List ℕ) (b : Bool) → MatchBool b (IsBench (Err stopped) × (now ≡ before)) (OpensFile word before now (Err stopped))
      → IsOneOf (0 ∷ 1 ∷ 3 ∷ 4 ∷ 8 ∷ 9 ∷ []) (stopped_end stopped).status
  word_status NoMemory before now word b leads = inr (inl refl)
  word_status (FileMissing name) before now word b leads = inr (inr (inl refl))
  word_status (FileFault name) before now word b leads = inr (inr (inl refl))
  word_status (PlantRefused why) before now word b leads = inr (inr (inr (inl refl)))
  word_status PlantTooLong before now word b leads = inr (inr (inr (inl refl)))
  word_status (TooLong its) before now word true leads = absurd leads.0
  word_status (TooLong its) before now word false leads = absurd leads.finds

  stop_status : (said : AllSaid parts Prefix) (stopped : Stopped) (before now : Snapshot) → AllLead parts Prefix said before now (Err stopped) → IsOneOf (0 ∷ 1 ∷ 3 ∷ 4 ∷ 8 ∷ 9 ∷ []) (stopped_end stopped).status
  stop_status said stopped before now (inl lead) = word_status stopped before now said.0 (is_bench said.0) lead
  stop_status said stopped before now (inr (one, goes)) = absurd goes.others

  told_status : (telling : Telling) → IsOneOf (0 ∷ 1 ∷ 3 ∷ 4 ∷ 8 ∷ 9 ∷ []) (telling_status telling)
  told_status AllWell = inl refl
  told_status (TraceFailed name) = inr (inr (inl refl))
  told_status NetFailed = inr (inr (inr (inr (inl refl))))
  told_status LimitsMet = inr (inr (inr (inr (inr (inl refl)))))

  came_status : (plant : PlantData) (prefix : Option (List ℕ)) (opened now : Snapshot) (net net_then : NetData P) (served : ServeEnd) → Came WasSent faults plant prefix opened now net net_then served
      → IsOneOf (0 ∷ 1 ∷ 3 ∷ 4 ∷ 8 ∷ 9 ∷ []) (serve_end served).status
  came_status plant prefix opened now net net_then served (inl is) =
      subst (λ (s : ServeEnd). IsOneOf (0 ∷ 1 ∷ 3 ∷ 4 ∷ 8 ∷ 9 ∷ []) (serve_end s).status) (sym is) (inr (inl refl))
  came_status plant prefix opened now net net_then served (inr (inl (untouched, trace))) =
      subst (λ (s : ServeEnd). IsOneOf (0 ∷ 1 ∷ 3 ∷ 4 ∷ 8 ∷ 9 ∷ []) (serve_end s).status) (sym trace.end_is) (inr (inr (inl refl)))
  came_status plant prefix opened now net net_then served (inr (inr (inl (is, rose)))) =
      subst (λ (s : ServeEnd). IsOneOf (0 ∷ 1 ∷ 3 ∷ 4 ∷ 8 ∷ 9 ∷ []) (serve_end s).status) (sym is) (inr (inr (inr (inr (inl refl)))))
  came_status plant prefix opened now net net_then served (inr (inr (inr (ends, done, so, is)))) =
      subst (λ (s : ServeEnd). IsOneOf (0 ∷ 1 ∷ 3 ∷ 4 ∷ 8 ∷ 9 ∷ []) (serve_end s).status) (sym is)
      (told_status (telling_of (name_at (names_for prefix (length plant.panels)) done.failed_trace) done.net_faults done.limits))

  pub known : ServiceStatusesAreKnown WasSent faults
  known said before now net net_then status serves = elim (how said before now net net_then status serves) [
    | inl (untouched, stop) ↦ inl (subst (IsOneOf (0 ∷ 1 ∷ 3 ∷ 4 ∷ 8 ∷ 9 ∷ [])) (sym stop.written.status_is) (stop_status said stop.stopped before.files now.files stop.lead))
    | inr (inl told) ↦ inl (subst (IsOneOf (0 ∷ 1 ∷ 3 ∷ 4 ∷ 8 ∷ 9 ∷ [])) (sym (told.written.status_is ∙ told.of.status_is))
        (came_status told.plant said.1 told.opened now.files net net_then told.served (came WasSent faults told.plant said.1 told.opened now.files net net_then told.served told.ends)))
    | inr (inr cut) ↦ inr cut
  ]

  -- the net's count of openings that were refused stays, unless that is the end
  answered_count : (plant : PlantData) (net net_then : NetData P) (traces traces_then : List TraceData) (names : List (List ℕ)) (answer : Result PlantDone ServeFault) (end : ServeEnd)
      → ServedSo WasSent faults plant net net_then traces traces_then answer → end ≡ answered_end names answer → (end ≡ NetRefused) ⊎ (net_then.open_faults ≡ net.open_faults)
  answered_count plant net net_then traces traces_then names (Ok done) end so is = inr so.served.open_count
  answered_count plant net net_then traces traces_then names (Err answers.NoMemory) end (inl untouched) is = inr (ap (λ (n : NetData P). n.open_faults) untouched.0)
  answered_count plant net net_then traces traces_then names (Err answers.NoMemory) end (inr undriven) is = inr undriven.served.open_count
  answered_count plant net net_then traces traces_then names (Err answers.NetFault) end so is = inl is

  plant_count : (plant : PlantData) (prefix : Option (List ℕ)) (opened now : Snapshot) (net net_then : NetData P) (end : ServeEnd) → PlantServiceEnds WasSent faults plant prefix opened now net net_then end
      → (end ≡ NetRefused) ⊎ (net_then.open_faults ≡ net.open_faults)
  plant_count plant prefix opened now net net_then end (inl (untouched, stopped)) = inr (ap (λ (n : NetData P). n.open_faults) untouched)
  plant_count plant prefix opened now net net_then end (inr served) = answered_count plant net net_then served.traces served.traces_then _ served.answer end served.served served.end_is

  pub refused_net : RefusedNetEndsWithEight WasSent faults
  refused_net said before now net net_then status differs serves = elim (how said before now net net_then status serves) [
    | inl (untouched, stop) ↦ absurd (differs (ap (λ (n : NetData P). n.open_faults) untouched))
    | inr (inl told) ↦ elim (plant_count told.plant said.1 told.opened now.files net net_then told.served told.ends) [
      | inl is ↦ inl ((came_written told.served NetRefused told.end status before.output now.output told.of is told.written).status_is)
      | inr same ↦ absurd (differs same)
    ]
    | inr (inr cut) ↦ inr cut
  ]

  -- what every row tells
  serve_known : (given : AllGiven parts Prefix) (before now : Moment) (net net_then : NetData P) (end : End) (status : ℕ) → ServeRow WasSent faults net net_then given before now end status → IsOneOf (0 ∷ 1 ∷ 3 ∷ 4 ∷ 8 ∷ 9 ∷ []) end.status
  serve_known given before now net net_then end status row =
      subst (IsOneOf (0 ∷ 1 ∷ 3 ∷ 4 ∷ 8 ∷ 9 ∷ [])) (sym row.2.status_is)
      (came_status given.0 given.1 before.files now.files net net_then row.0 (came WasSent faults given.0 given.1 before.files now.files net net_then row.0 row.1))
