-- What keeps a service from being served well whose plant the files show.
use Rattle.std.proofs.Common.{◌≡◌, ◌⊎◌, inl, inr, ℕ, ◌+◌, ◌≤◌, Bool, true, false, List, [], ◌∷◌, ◌++◌, length, map, Option, Some, None, Result, Ok, Err, refl, sym, ◌∙◌, ap, subst, arith}
use Rattle.std.proofs.lemmas.Bool.{lt-ltb}
use Rattle.std.specs.Prelude.{if◌then◌else◌, nat_lt}
use Rattle.ctl_io.specs.Custody.{SinkEnd}
use Rattle.ctl_io.specs.Faults.{Rose, count_after, is_faulty, one_more}
use Rattle.ctl_io.specs.WholeFile.{reading_failed}
use Rattle.ctl_io.proofs.FaultsLemmas.{rose_counted, count_never_falls, rose_then, then_rose}
use Rattle.history_lock.specs.Locks.{LockData}
use Rattle.plant_config.specs.Plant.{PlantData}
use Rattle.plant_core.specs.State.{State}
use Rattle.panel_session.specs.Entry.{PlantEntry}
use Rattle.panel_session.specs.Served.{TraceData}
use Rattle.panel_server.specs.PlantServed.{NetData, PanelRun, DisplayRun, ServedSo, first_true, trace_failures}
use Rattle.panel_server.specs.Driven.{ends_by_trace}
use Rattle.panel_server.specs.Workers.{trace_of}
use Rattle.panel_server.specs.declared.plant.PlantDone.{PlantDone}
use Rattle.command_words.specs.Parts.{Prefix, AllSaid}
use Rattle.command_rows.specs.Moment.{Snapshot, Moment}
use Rattle.command_rows.specs.MadeFile.{TakesBack}
use Rattle.command_rows.specs.ReadsFile.{stop_reading}
use Rattle.command_rows.specs.End.{Stopped, NoMemory, FileMissing, FileFault, PlantRefused, PlantTooLong, TooLong, stopped_end, ComesTo}
use Rattle.command_rows.specs.ShownLaws.{Keeps}
use Rattle.command_rows.proofs.OpenerLemmas.{counts}
use Rattle.command_rows.proofs.ShownLemmas.{follows_shown}
use Rattle.command_rows.proofs.RowLawsLemmas.{written_or}
use Rattle.command_serve.specs.Traces.{names_for, TakesAllBack}
use Rattle.command_serve.specs.Serve.{parts, Telling, AllWell, TraceFailed, NetFailed, LimitsMet, ServeEnd, telling_of, name_at, serve_end, EndsServed, PlantServiceEnds}
use Rattle.command_serve.specs.Laws.{WasKeptFromServing, ShownPlantIsServed}
use Rattle.command_serve.proofs.TraceSinkLemmas.{made-faults, fails_at-faults}
use Rattle.command_serve.proofs.CameLemmas.{telling_status, by_net, Came, came}

-- A write to one of these traces failed.
abbrev SomeFaulty : List TraceData → Type 0
SomeFaulty [] = ⊥
SomeFaulty (trace ∷ later) = (is_faulty trace.faults ≡ true) ⊎ SomeFaulty later

-- sinks that are given back never lower the count, and a faulty one raises it
back-up : (back : List SinkEnd) (before now : Snapshot) → TakesAllBack back before now → before.faults ≤ now.faults
back-up [] before now takes = let same : now.faults ≡ before.faults = ap (λ (s : Snapshot). s.faults) takes in omega (arith, same)
back-up (shown ∷ later) before now takes =
    omega (arith, back-up later before takes.0 takes.1, takes.2.faults, count_never_falls (is_faulty shown.faults) takes.0.faults)

one-rose : (shown : SinkEnd) (between now : Snapshot) → is_faulty shown.faults ≡ true → TakesBack shown between now → Rose between.faults now.faults
one-rose shown between now faulty takes =
    subst (Rose between.faults) (sym (takes.faults ∙ ap (λ (b : Bool). count_after b between.faults) faulty)) (rose_counted between.faults)

step-up : (shown : SinkEnd) (between now : Snapshot) → TakesBack shown between now → between.faults ≤ now.faults
step-up shown between now takes = omega (arith, takes.faults, count_never_falls (is_faulty shown.faults) between.faults)

back-rose : (back : List SinkEnd) (before now : Snapshot) → SomeFaulty (map trace_of back) → TakesAllBack back before now → Rose before.faults now.faults
back-rose [] before now some takes = absurd some
back-rose (shown ∷ later) before now (inl faulty) takes =
    then_rose before.faults takes.0.faults now.faults (back-up later before takes.0 takes.1) (one-rose shown takes.0 now faulty takes.2)
back-rose (shown ∷ later) before now (inr some) takes =
    rose_then before.faults takes.0.faults now.faults (back-rose later before takes.0 some takes.1) (step-up shown takes.0 now takes.2)

-- the first failure is of a trace whose count shows it
raised : (before : ℕ) → is_faulty (count_after true before) ≡ true
raised before = lt-ltb 0 (count_after true before) (omega arith)

at_panel : (failed : Bool) (later : List Bool) (before now start place : ℕ) → now ≡ count_after failed before → first_true start (failed ∷ later) ≡ Some place
    → (is_faulty now ≡ true) ⊎ (first_true (start + 1) later ≡ Some place)
at_panel true later before now start place count found = inl (ap is_faulty count ∙ raised before)
at_panel false later before now start place count found = inr found

at_displays : (failed : Bool) (before now start place : ℕ) → now ≡ count_after failed before → first_true start (failed ∷ []) ≡ Some place → is_faulty now ≡ true
at_displays true before now start place count found = ap is_faulty count ∙ raised before
at_displays false before now start place count found = absurd (let clash = found in cc)

-- a trace is told of as failed only where one has a name and a place
untold : (net_failed limit_met : Bool) (name : List ℕ) → (if net_failed then NetFailed else (if limit_met then LimitsMet else AllWell)) ≡ TraceFailed name → ⊥
untold true limit_met name is = let h = ap telling_status is in omega arith
untold false true name is = let h = ap telling_status is in omega arith
untold false false name is = let h = ap telling_status is in omega arith

by_place : (names : List (List ℕ)) (failed : Option ℕ) (net_faults limits : ℕ) (name : List ℕ) → telling_of (name_at names failed) net_faults limits ≡ TraceFailed name
    → (place : ℕ) × (failed ≡ Some place)
by_place names None net_faults limits name is = absurd (untold (nat_lt 0 net_faults) (nat_lt 0 limits) name is)
by_place names (Some place) net_faults limits name is = (place, refl)

unnamed : (failed : Option ℕ) → name_at [] failed ≡ None
unnamed None = refl
unnamed (Some place) = refl

none_named : (failed : Option ℕ) (net_faults limits : ℕ) (name : List ℕ) → telling_of (name_at [] failed) net_faults limits ≡ TraceFailed name → ⊥
none_named failed net_faults limits name is =
    untold (nat_lt 0 net_faults) (nat_lt 0 limits) name (sym (ap (λ (found : Option (List ℕ)). telling_of found net_faults limits) (unnamed failed)) ∙ is)

module _ {P : Type 0} (WasSent : P → List (List ℕ) → Type 0) (faults : P → ℕ) where
  some_failed : (plant : PlantData) (lock : LockData State) (past : List PlantEntry) (panels : List (PanelRun plant lock past)) (displays : DisplayRun WasSent faults plant lock past) (start place : ℕ)
      → first_true start (trace_failures panels displays) ≡ Some place → SomeFaulty (map (λ run. run.trace_then) panels ++ displays.trace_then ∷ [])
  some_failed plant lock past [] displays start place found =
      inl (at_displays (ends_by_trace displays.end) displays.trace.faults displays.trace_then.faults start place displays.driven.trace_count found)
  some_failed plant lock past (run ∷ later) displays start place found =
      elim (at_panel run.done.trace_failed (trace_failures later displays) run.trace.faults run.trace_then.faults start place run.served.trace_count found) [
        | inl faulty ↦ inl faulty
        | inr more ↦ inr (some_failed plant lock past later displays (start + 1) place more)
      ]

  -- what is told of a trace is so of one, and raises the files' count
  trace-rose : (plant : PlantData) (prefix : Option (List ℕ)) (opened now : Snapshot) (net net_then : NetData P) (served : ServeEnd) (ends : EndsServed WasSent faults plant prefix opened now net net_then served) (done : PlantDone) (name : List ℕ)
      → ServedSo WasSent faults plant net net_then ends.traces ends.traces_then (Ok done) → telling_of (name_at (names_for prefix (length plant.panels)) done.failed_trace) done.net_faults done.limits ≡ TraceFailed name
      → Rose opened.faults now.faults
  trace-rose plant None opened now net net_then served ends done name so is = absurd (none_named done.failed_trace done.net_faults done.limits name is)
  trace-rose plant (Some prefix) opened now net net_then served ends done name so is =
      let found = by_place (names_for (Some prefix) (length plant.panels)) done.failed_trace done.net_faults done.limits name is in
      let faulty = subst SomeFaulty (sym so.served.traces_are)
      (some_failed plant so.served.lock done.past so.served.panels so.served.displays 0 found.0 (sym so.counted.failed_trace ∙ found.1)) in
      subst (λ (count : ℕ). Rose count now.faults) (made-faults _ opened ends.made ends.makes)
      (back-rose ends.back ends.made now (subst SomeFaulty (sym ends.those) faulty) ends.takes)

  -- a plant that was opened
  by_came : (said : AllSaid parts Prefix) (before now : Moment) (net net_then : NetData P) (status : ℕ) (plant : PlantData) (opened : Snapshot) (served : ServeEnd) → opened.faults ≡ before.files.faults → status ≡ (serve_end served).status
      → Came WasSent faults plant said.1 opened now.files net net_then served → (status ≡ 0) ⊎ (status ≡ 9) ⊎ WasKeptFromServing before now net net_then status
  by_came said before now net net_then status plant opened served same status_is (inl is) = inr (inr (inl (status_is ∙ ap (λ (s : ServeEnd). (serve_end s).status) is)))
  by_came said before now net net_then status plant opened served same status_is (inr (inl (untouched, trace))) =
      let rose = subst (Rose opened.faults) (sym (fails_at-faults _ trace.place opened now.files trace.fails)) (rose_counted opened.faults) in
      inr (inr (inr (inl (status_is ∙ ap (λ (s : ServeEnd). (serve_end s).status) trace.end_is, subst (λ (count : ℕ). Rose count now.files.faults) same rose))))
  by_came said before now net net_then status plant opened served same status_is (inr (inr (inl (is, rose)))) =
      inr (inr (inr (inr (inr (
        status_is ∙ ap (λ (s : ServeEnd). (serve_end s).status) is,
        inl (subst (Rose net.open_faults) (sym rose) (rose_counted net.open_faults)),
      )))))
  by_came said before now net net_then status plant opened served same status_is (inr (inr (inr (ends, done, so, is)))) =
      by_telling (telling_of (name_at (names_for said.1 (length plant.panels)) done.failed_trace) done.net_faults done.limits) refl (status_is ∙ ap (λ (s : ServeEnd). (serve_end s).status) is) where
        by_telling : (telling : Telling) → telling_of (name_at (names_for said.1 (length plant.panels)) done.failed_trace) done.net_faults done.limits ≡ telling → status ≡ telling_status telling
            → (status ≡ 0) ⊎ (status ≡ 9) ⊎ WasKeptFromServing before now net net_then status
        by_telling AllWell told at = inl at
        by_telling LimitsMet told at = inr (inl at)
        by_telling (TraceFailed name) told at =
            inr (inr (inr (inl (at, subst (λ (count : ℕ). Rose count now.files.faults) same (trace-rose plant said.1 opened now.files net net_then served ends done name so told)))))
        by_telling NetFailed told at =
            inr (inr (inr (inr (inr (at, inr (so.cause (by_net (name_at (names_for said.1 (length plant.panels)) done.failed_trace) done.net_faults done.limits told)))))))

  stop_kept : (stopped : Stopped) (before now : Moment) (net net_then : NetData P) (status : ℕ) → Keeps stopped → now.files.faults ≡ count_after (reading_failed (stop_reading stopped)) before.files.faults
      → ComesTo (stopped_end stopped) status before.output now.output → WasKeptFromServing before now net net_then status
  stop_kept stopped before now net net_then status keeps faults (inr cut) = inr (inr (inl (cut.status_is, cut.faults)))
  stop_kept NoMemory before now net net_then status keeps faults (inl written) = inl written.status_is
  stop_kept (FileFault name) before now net net_then status keeps faults (inl written) =
      inr (inl (written.status_is, subst (Rose before.files.faults) (sym faults) (rose_counted before.files.faults)))
  stop_kept (FileMissing name) before now net net_then status keeps faults (inl written) = absurd keeps
  stop_kept (PlantRefused why) before now net net_then status keeps faults (inl written) = absurd keeps
  stop_kept PlantTooLong before now net net_then status keeps faults (inl written) = absurd keeps
  stop_kept (TooLong word) before now net net_then status keeps faults (inl written) = absurd keeps

  pub served_or_kept : ShownPlantIsServed WasSent faults
  served_or_kept said plant before now net net_then status shows (inl (untouched, stop)) = elim (follows_shown parts Prefix said before.files now.files (Err stop.stopped) (Ok (plant, said.1)) stop.lead shows) [
    | inl same ↦ absurd (cc)
    | inr kept ↦ inr (inr (stop_kept stop.stopped before now net net_then status kept (counts parts Prefix said before.files now.files (Err stop.stopped) stop.lead) stop.comes))
  ]
  served_or_kept said plant before now net net_then status shows (inr done) = elim (written_or done.ends.end status before now done.ends.comes) [
    | inr cut ↦ inr (inr (inr (inr (inl cut))))
    | inl written ↦
        let row = done.ends.ends in
        let ends = subst (λ (p : Option (List ℕ)). PlantServiceEnds WasSent faults done.given.0 p done.opened now.files net net_then row.0) done.lead.others.0 row.1 in
        by_came said before now net net_then status done.given.0 done.opened row.0 (counts parts Prefix said before.files done.opened (Ok done.given) done.lead) (written.status_is ∙ row.2.status_is)
        (came WasSent faults done.given.0 said.1 done.opened now.files net net_then row.0 ends)
  ]
