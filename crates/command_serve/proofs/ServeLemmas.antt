-- How a service ends.
use Rattle.std.proofs.Common.{◌≡◌, ◌≢◌, ◌⊎◌, ℕ, ◌+◌, ◌<◌, ◌≤◌, inl, inr, Bool, true, false, List, [], ◌∷◌, ◌++◌, length, map, Option, Some, None, Result, Ok, Err, refl, sym, ◌∙◌, ap, subst, arith}
use Rattle.std.specs.Prelude.{All, MatchBool, if◌then◌else◌, nat_lt, codes, slice_get, get_or}
use Rattle.std.specs.List.{range_with_len}
use Rattle.std.specs.Bool.{OnFalse}
use Rattle.std.proofs.lemmas.List.{length-append, take-append-le}
use Rattle.std.proofs.lemmas.List.Elements.{All-cons, All-map}
use Rattle.std.proofs.lemmas.List.FromFn.{length-map-range_with_len}
use Rattle.std.proofs.lemmas.Simd.{map-map}
use Rattle.ctl_io.specs.Custody.{SinkEnd}
use Rattle.ctl_io.specs.Faults.{Rose, count_after, is_faulty, one_more}
use Rattle.ctl_io.specs.Sink.{appended, AppendsPart}
use Rattle.ctl_io.proofs.SinkLemmas.{appended-nil}
use Rattle.ctl_io.proofs.FaultsLemmas.{rose_counted, count_never_falls, rose_then, then_rose}
use Rattle.plant_config.specs.Plant.{PlantData}
use Rattle.plant_config.specs.IsPlant.{IsPlant}
use Rattle.panel_session.specs.Served.{TraceData, trace_shows}
use Rattle.panel_server.specs.PlantServed.{NetData, ServedSo}
use Rattle.panel_server.specs.Workers.{trace_of}
use Rattle.panel_server.specs.declared.plant.PlantDone.{PlantDone}
use Rattle.panel_server.specs.declared.plant.ServeFault.{ServeFault}
use Rattle.panel_server.specs.declared.plant.ServeFault.TheVariants as answers
use Rattle.command_words.specs.Parts.{Prefix}
use Rattle.command_rows.specs.Moment.{Snapshot, Output, Moment}
use Rattle.command_rows.specs.MadeFile.{TakesBack, sink_end}
use Rattle.command_rows.specs.End.{End, Stopped, ComesTo, done, file_failed, out_of_memory, stopped_end}
use Rattle.command_rows.specs.Opener.{OpensOn}
use Rattle.command_rows.specs.Row.{RowEnds}
use Rattle.command_serve.specs.Traces.{trace_names, panel_trace, MakesFiles, AreAsMade, FailsAt, TakesAllBack}
use Rattle.command_serve.specs.Serve.{Telling, AllWell, TraceFailed, NetFailed, LimitsMet, ServeEnd, Unserved, telling_end, telling_of, name_at, answered_end, serve_end}
use Rattle.command_serve.specs.Serve.{IsNewTrace, HaveNames, EndsServed, ServeRow, ServesOn, parts}
use Rattle.command_serve.proofs.TraceSinkLemmas.{made-faults, fails_at-faults}

-- a shorter front is one of a longer text too
pub part-longer : (text more : List ℕ) (before now : Option (List ℕ)) → AppendsPart text before now → AppendsPart (text ++ more) before now
part-longer text more before now part = record {
  count = part.count;
  shorter = omega (arith, part.shorter, length-append text more);
  appends = part.appends ∙ ap (appended before) (sym (take-append-le part.count text more (omega (arith, part.shorter))));
}

pub off-longer : (done : Bool) (text more : List ℕ) (before now : Option (List ℕ)) → OnFalse done (AppendsPart text before now) → OnFalse done (AppendsPart (text ++ more) before now)
off-longer true text more before now part = part
off-longer false text more before now part = part-longer text more before now part

-- new traces
all_new : (names : List (List ℕ)) (shown : List SinkEnd) → AreAsMade names shown → All IsNewTrace (map trace_of shown)
all_new [] [] made = λ i d less. absurd (omega (arith, less))
all_new (name ∷ names) (first ∷ shown) made =
    All-cons IsNewTrace (trace_of first) (map trace_of shown) (record { unwritten = made.0.unwritten; no_faults = made.0.no_faults }) (all_new names shown made.1)
all_new [] (first ∷ shown) made = absurd made
all_new (name ∷ names) [] made = absurd made

all_named : (names : List (List ℕ)) (shown : List SinkEnd) → AreAsMade names shown → HaveNames names (map (λ (one : SinkEnd). one.name) shown)
all_named [] [] made = tt
all_named (name ∷ names) (first ∷ shown) made = (made.0.named, all_named names shown made.1)
all_named [] (first ∷ shown) made = absurd made
all_named (name ∷ names) [] made = absurd made

-- as many as the plant has panels, and one more
pub names-length : (prefix : List ℕ) (panels : ℕ) → length (trace_names prefix panels) ≡ panels + 1
names-length prefix panels =
    let count = length-map-range_with_len (panel_trace prefix) 0 panels in
    omega (arith, count, length-append (map (panel_trace prefix) (range_with_len 0 panels)) ((prefix ++ codes ".d") ∷ []))

-- an end that differs from another in whether it is a fault of the files alone
comes_as : (one other : End) (status : ℕ) (before now : Output) → other.status ≡ one.status → other.text ≡ one.text → ComesTo one status before now → ComesTo other status before now
comes_as one other status before now same text (inl is) =
    inl (record { status_is = is.status_is ∙ sym same; appends = is.appends ∙ ap (appended before.written) (sym text); faults = is.faults })
comes_as one other status before now same text (inr is) =
    inr (record { status_is = is.status_is; appends = subst (λ (t : List ℕ). AppendsPart t before.written now.written) (sym text) is.appends; faults = is.faults })

-- nothing is left to say
pub silent : (now : Output) → ComesTo (done []) 0 now now
silent now = inl (record { status_is = refl; appends = sym (appended-nil now.written); faults = refl })

-- whether a write of one of these sinks failed
abbrev some_faulty : List SinkEnd → Bool
some_faulty [] = false
some_faulty (shown ∷ later) = if is_faulty shown.faults then true else some_faulty later

-- The count of the files rose where a sink with a fault was given back, and else it stayed.
abbrev Counts : Bool → ℕ → ℕ → Type 0
Counts faulty before now = MatchBool faulty (Rose before now) (now ≡ before)

-- no sink that is given back lowers the count
back_up : (back : List SinkEnd) (before now : Snapshot) → TakesAllBack back before now → before.faults ≤ now.faults
back_up [] before now takes = omega (arith, ap (λ (s : Snapshot). s.faults) takes)
back_up (shown ∷ later) before now takes = omega (arith, back_up later before takes.0 takes.1, takes.2.faults, count_never_falls (is_faulty shown.faults) takes.0.faults)

count_one : (one more : Bool) (before between now : ℕ) → before ≤ between → Counts more before between → now ≡ count_after one between → Counts (if one then true else more) before now
count_one true more before between now up so count = then_rose before between now up (subst (Rose between) (sym count) (rose_counted between))
count_one false true before between now up so count = subst (Rose before) (sym count) so
count_one false false before between now up so count = count ∙ so

back_counts : (back : List SinkEnd) (before now : Snapshot) → TakesAllBack back before now → Counts (some_faulty back) before.faults now.faults
back_counts [] before now takes = ap (λ (s : Snapshot). s.faults) takes
back_counts (shown ∷ later) before now takes =
    count_one (is_faulty shown.faults) (some_faulty later) before.faults takes.0.faults now.faults (back_up later before takes.0 takes.1) (back_counts later before takes.0 takes.1) takes.2.faults

-- the status of what is told is none of words and plants
telling_own : (telling : Telling) → ((telling_end telling).status ≢ 2) × ((telling_end telling).status ≢ 4)
telling_own AllWell = (λ h. omega (arith, h), λ h. omega (arith, h))
telling_own (TraceFailed name) = (λ h. omega (arith, h), λ h. omega (arith, h))
telling_own NetFailed = (λ h. omega (arith, h), λ h. omega (arith, h))
telling_own LimitsMet = (λ h. omega (arith, h), λ h. omega (arith, h))

answered_own : (names : List (List ℕ)) (answer : Result PlantDone ServeFault) → ((serve_end (answered_end names answer)).status ≢ 2) × ((serve_end (answered_end names answer)).status ≢ 4)
answered_own names (Ok done) = telling_own (telling_of (name_at names done.failed_trace) done.net_faults done.limits)
answered_own names (Err answers.NoMemory) = (λ h. omega (arith, h), λ h. omega (arith, h))
answered_own names (Err answers.NetFault) = (λ h. omega (arith, h), λ h. omega (arith, h))

module _ {P : Type 0} (WasSent : P → List (List ℕ) → Type 0) (faults : P → ℕ) where
  -- the plant was served with its traces in files
  pub served-traced : {K : Type 0} (name written : K → Option (List ℕ)) (sink_faults : K → ℕ) (plant : PlantData) (prefix : List ℕ) (names : List (List ℕ)) (sinks back : List K)
      (opened made now : Snapshot) (net net_then : NetData P) (answer : Result PlantDone ServeFault) → IsPlant plant → names ≡ trace_names prefix (length plant.panels) → MakesFiles names opened made
      → AreAsMade names (map (sink_end name written sink_faults) sinks)
      → ServedSo WasSent faults plant net net_then (map (trace_shows written sink_faults) sinks) (map (trace_shows written sink_faults) back) answer → map name back ≡ map name sinks
      → TakesAllBack (map (sink_end name written sink_faults) back) made now → EndsServed WasSent faults plant (Some prefix) opened now net net_then (answered_end names answer)
  served-traced name written sink_faults plant prefix names sinks back opened made now net net_then answer plant_is are makes as_made served kept takes =
      let shows = sink_end name written sink_faults in
      let named_back : map (λ (one : SinkEnd). one.name) (map shows sinks) ≡ map (λ (one : SinkEnd). one.name) (map shows back) =
      map-map (λ (one : SinkEnd). one.name) shows sinks ∙ sym kept ∙ sym (map-map (λ (one : SinkEnd). one.name) shows back) in
      record {
        plant_is = plant_is;
        silent = tt;
        answer = answer;
        traces = map (trace_shows written sink_faults) sinks;
        new = subst (All IsNewTrace) (map-map trace_of shows sinks) (all_new names (map shows sinks) as_made);
        traces_then = map (trace_shows written sink_faults) back;
        served = served;
        made = made;
        makes = subst (λ (ns : List (List ℕ)). MakesFiles ns opened made) are makes;
        back = map shows back;
        named = subst (λ (ns : List (List ℕ)). HaveNames ns (map (λ (one : SinkEnd). one.name) (map shows back))) are (subst (HaveNames names) named_back (all_named names (map shows sinks) as_made));
        those = map-map trace_of shows back;
        takes = takes;
        end_is = ap (λ (ns : List (List ℕ)). answered_end ns answer) are;
      }

  -- the plant was served with traces that nobody wants
  pub served-untraced : {K : Type 0} (written : K → Option (List ℕ)) (sink_faults : K → ℕ) (plant : PlantData) (names : List (List ℕ)) (sinks back : List K)
      (files : Snapshot) (net net_then : NetData P) (answer : Result PlantDone ServeFault) → IsPlant plant → ((sink : K) → IsNewTrace (trace_shows written sink_faults sink)) → names ≡ []
      → ServedSo WasSent faults plant net net_then (map (trace_shows written sink_faults) sinks) (map (trace_shows written sink_faults) back) answer
      → EndsServed WasSent faults plant None files files net net_then (answered_end names answer)
  served-untraced written sink_faults plant names sinks back files net net_then answer plant_is fresh none served = record {
    plant_is = plant_is;
    silent = All-map (λ (trace : TraceData). trace.faults ≡ 0) (trace_shows written sink_faults) back (λ i d less. (fresh (get_or back i d)).no_faults);
    answer = answer;
    traces = map (trace_shows written sink_faults) sinks;
    new = All-map IsNewTrace (trace_shows written sink_faults) sinks (λ i d less. fresh (get_or sinks i d));
    traces_then = map (trace_shows written sink_faults) back;
    served = served;
    made = files;
    makes = refl;
    back = [];
    named = tt;
    those = refl;
    takes = refl;
    end_is = ap (λ (ns : List (List ℕ)). answered_end ns answer) none;
  }

  module _ (plant : PlantData) (prefix : Option (List ℕ)) (files now : Snapshot) (net net_then : NetData P) (before after : Output) (status : ℕ) where
    -- A service of this plant ended between these moments.
    abbrev Ends : Type 0
    Ends = RowEnds (ServeRow WasSent faults net net_then (plant, prefix)) (record { files = files; output = before }) (record { files = now; output = after }) status

    -- there was no memory for what serving takes
    pub unready : now ≡ files → net_then ≡ net → ComesTo out_of_memory status before after → Ends
    unready same untouched comes = record {
      end = out_of_memory;
      ends = (Unserved out_of_memory, inl (untouched, inl (same, refl)), record { status_is = refl; text_is = refl });
      own = record { not_words = λ h. omega (arith, h); not_plant = λ h. omega (arith, h); faults = ap (λ (s : Snapshot). s.faults) same };
      comes = comes;
    }

    -- it came to its answer
    pub answered : (names : List (List ℕ)) (answer : Result PlantDone ServeFault) → EndsServed WasSent faults plant prefix files now net net_then (answered_end names answer)
        → ComesTo (serve_end (answered_end names answer)) status before after → Ends
    answered names answer ends comes =
        let served = answered_end names answer in
        let faulty = some_faulty ends.back in
        record {
          end = record { status = (serve_end served).status; text = (serve_end served).text; is_file_fault = faulty };
          ends = (served, inr ends, record { status_is = refl; text_is = refl });
          own = record {
            not_words = (answered_own names answer).0;
            not_plant = (answered_own names answer).1;
            faults =
                subst (λ (count : ℕ). Counts faulty count now.faults) (made-faults _ files ends.made ends.makes) (back_counts ends.back ends.made now ends.takes);
          };
          comes = comes_as (serve_end served) (record { status = (serve_end served).status; text = (serve_end served).text; is_file_fault = faulty }) status before after refl refl comes;
        }

  -- a trace could not be made
  pub at-trace : (plant : PlantData) (prefix : List ℕ) (names : List (List ℕ)) (place : ℕ) (name : List ℕ) (files now : Snapshot) (net : NetData P) (before after : Output) (status : ℕ)
      → names ≡ trace_names prefix (length plant.panels) → FailsAt names place files now → slice_get names place ≡ Some name → ComesTo (file_failed name) status before after
      → Ends plant (Some prefix) files now net net before after status
  at-trace plant prefix names place name files now net before after status are fails at comes =
      let fails_so = subst (λ (ns : List (List ℕ)). FailsAt ns place files now) are fails in
      let found : Some name ≡ Some fails_so.stops.name = sym at ∙ ap (λ (ns : List (List ℕ)). slice_get ns place) are ∙ fails_so.stops.at in
      let same : name ≡ fails_so.stops.name = cc in
      record {
        end = file_failed fails_so.stops.name;
        ends = (
          Unserved (file_failed fails_so.stops.name),
          inl (refl, inr (record { place = place; fails = fails_so; end_is = refl })),
          record { status_is = refl; text_is = refl },
        );
        own = record {
          not_words = λ h. omega (arith, h);
          not_plant = λ h. omega (arith, h);
          faults = subst (Rose files.faults) (sym (fails_at-faults names place files now fails)) (rose_counted files.faults);
        };
        comes = subst (λ (n : List ℕ). ComesTo (file_failed n) status before after) same comes;
      }

  -- what words speak of was not opened
  pub stops_so : (words : List (List ℕ)) (files opened : Snapshot) (net : NetData P) (before now : Output) (status : ℕ) (stopped : Stopped) → OpensOn parts Prefix words files opened (Err stopped)
      → ComesTo (stopped_end stopped) status before now → ServesOn WasSent faults words (record { files = files; output = before }) (record { files = opened; output = now }) net net status
  stops_so words files opened net before now status stopped opens comes said say = inl (refl, record { stopped = stopped; lead = opens said say; comes = comes })

  -- it was opened, and the plant that was given served so
  pub ends_so : (words : List (List ℕ)) (plant : PlantData) (prefix : Option (List ℕ)) (files opened : Snapshot) (net net_then : NetData P) (before : Output) (now : Moment) (status : ℕ)
      → OpensOn parts Prefix words files opened (Ok (plant, prefix)) → RowEnds (ServeRow WasSent faults net net_then (plant, prefix)) (record { files = opened; output = before }) now status
      → ServesOn WasSent faults words (record { files = files; output = before }) now net net_then status
  ends_so words plant prefix files opened net net_then before now status opens ends said say = inr (record { given = (plant, prefix); opened = opened; lead = opens said say; ends = ends })
