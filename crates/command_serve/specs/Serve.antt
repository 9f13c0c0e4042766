-- The command `serve`: what is given for its form, how it may end, with its exit status and its text, and why.
use Rattle.std.specs.Prelude.{◌≡◌, ◌⊎◌, ℕ, nat_lt, if◌then◌else◌, List, [], ◌∷◌, ◌++◌, All, length, map, slice_get, codes, Option, None, Some, Result, Ok, Err}
use Rattle.std.specs.Fmt.{decimal}
use Rattle.ctl_io.specs.Custody.{SinkEnd}
use Rattle.ctl_io.specs.Held.{IsNamed}
use Rattle.ctl_io.specs.Sink.{IsUnwritten}
use Rattle.plant_config.specs.Plant.{PlantData}
use Rattle.plant_config.specs.IsPlant.{IsPlant}
use Rattle.panel_session.specs.Served.{TraceData}
use Rattle.panel_server.specs.PlantServed.{NetData, ServedSo}
use Rattle.panel_server.specs.Workers.{trace_of}
use Rattle.panel_server.specs.declared.plant.PlantDone.{PlantDone}
use Rattle.panel_server.specs.declared.plant.ServeFault.{ServeFault}
use Rattle.panel_server.specs.declared.plant.ServeFault.TheVariants as faults
use Rattle.command_words.specs.Parts.{Part, Plant, Prefix, AllSaid, AllSay}
use Rattle.command_rows.specs.Moment.{Snapshot, Moment}
use Rattle.command_rows.specs.Lines.{line}
use Rattle.command_rows.specs.End.{End, behind, done, ended, file_failed, out_of_memory}
use Rattle.command_rows.specs.Row.{Promise, StopsAtOpening, EndsOpened}
use Rattle.command_serve.specs.Traces.{names_for, MakesFiles, FailsAt, TakesAllBack}

-- the parts of its form, behind which a prefix may stand
abbrev pub parts : List Part
parts = Plant ∷ []

-- its lines
abbrev pub net_fault : List ℕ
net_fault = line (codes "net fault")

abbrev pub limits_met : List ℕ
limits_met = line (codes "session limits met")

-- the lines on a plant that was served: how many sessions there were, and how many entries the history has
abbrev pub served_lines : ℕ → ℕ → List ℕ
served_lines sessions entries =
    line (codes "sessions " ++ decimal sessions) ++ line (codes "entries " ++ decimal entries)

-- What is told of a plant that was served: all was well; a write of a trace failed, and the first of which that is so has this
-- name; the net had faults; or a session, or the worker of the displays, ended by a limit.
pub data Telling : Type 0 where
  AllWell : Telling
  TraceFailed : (name : List ℕ) → Telling
  NetFailed : Telling
  LimitsMet : Telling

-- What came of serving: no plant was served, and this is why, as other commands end; the net refused an opening; or the plant was
-- served, with so many sessions and so many entries of its history, and this is told of it.
pub data ServeEnd : Type 0 where
  Unserved : (end : End) → ServeEnd
  NetRefused : ServeEnd
  Served : (sessions entries : ℕ) (telling : Telling) → ServeEnd

-- what is told, as an end: its line is all
abbrev pub telling_end : Telling → End
telling_end AllWell = done []
telling_end (TraceFailed name) = file_failed name
telling_end NetFailed = ended 8 net_fault
telling_end LimitsMet = ended 9 limits_met

-- what came of serving, as an end
abbrev pub serve_end : ServeEnd → End
serve_end (Unserved end) = end
serve_end NetRefused = ended 8 net_fault
serve_end (Served sessions entries telling) =
    behind (served_lines sessions entries) (telling_end telling)

-- what is told by these numbers of faults of the net and of limits that were met: the net comes first
abbrev pub counted_telling : ℕ → ℕ → Telling
counted_telling net_faults limits =
    if nat_lt 0 net_faults then NetFailed else (if nat_lt 0 limits then LimitsMet else AllWell)

-- what is told where a trace of this name failed, or none did: the trace comes first
abbrev pub telling_of : Option (List ℕ) → ℕ → ℕ → Telling
telling_of (Some name) net_faults limits = TraceFailed name
telling_of None net_faults limits = counted_telling net_faults limits

-- the name at a place, if there is one
abbrev pub name_at : List (List ℕ) → Option ℕ → Option (List ℕ)
name_at names None = None
name_at names (Some place) = slice_get names place

-- what came of a plant that was to be served with traces of these names, by the answer
abbrev pub answered_end : List (List ℕ) → Result PlantDone ServeFault → ServeEnd
answered_end names (Ok done) = Served done.sessions done.entries
    (telling_of (name_at names done.failed_trace) done.net_faults done.limits)
answered_end names (Err faults.NoMemory) = Unserved out_of_memory
answered_end names (Err faults.NetFault) = NetRefused

-- A trace is new: nothing was written to it, where that is shown, and no write of it failed.
pub record IsNewTrace (trace : TraceData) : Type 0 where
  pub unwritten : IsUnwritten trace.written
  pub no_faults : trace.faults ≡ 0

-- Sinks are named so, one each, in order, where they show their names.
abbrev pub HaveNames : List (List ℕ) → List (Option (List ℕ)) → Type 0
HaveNames [] [] = Unit {0}
HaveNames (name ∷ names) (shown ∷ others) = IsNamed name shown × HaveNames names others
HaveNames [] (shown ∷ others) = ⊥
HaveNames (name ∷ names) [] = ⊥

-- The sinks that were given back are those of these traces, where traces were to be kept, and else there are none.
abbrev pub AreThoseOf : Option (List ℕ) → List TraceData → List SinkEnd → Type 0
AreThoseOf None traces back = back ≡ []
AreThoseOf (Some prefix) traces back = map trace_of back ≡ traces

-- Traces that are kept nowhere never fail: where there is no prefix, no write of one has failed.
abbrev pub NeverFail : Option (List ℕ) → List TraceData → Type 0
NeverFail None traces = All (λ trace. trace.faults ≡ 0) traces
NeverFail (Some prefix) traces = Unit {0}

-- There was no memory for what serving takes, before any trace was made.
abbrev pub EndsUnready : Snapshot → Snapshot → ServeEnd → Type 0
EndsUnready opened now end = (now ≡ opened) × (end ≡ Unserved out_of_memory)

-- A trace could not be made. Those before it were, and were given back as they were made.
pub record EndsAtTrace (plant : PlantData) (prefix : Option (List ℕ)) (opened now : Snapshot)
    (end : ServeEnd) : Type 0 where
  pub place : ℕ
  pub fails : FailsAt (names_for prefix (length plant.panels)) place opened now
  pub end_is : end ≡ Unserved (file_failed fails.stops.name)

-- The plant was to be served over the net, with new traces, and this is the end by the answer. So where the answer says what was
-- done, there is a closed history in which it was done. The files of the traces were made before, and given back behind; where
-- none are kept, no write of a trace failed, before or behind that.
pub record EndsServed {P : Type 0} (WasSent : P → List (List ℕ) → Type 0) (faults : P → ℕ)
    (plant : PlantData) (prefix : Option (List ℕ)) (opened now : Snapshot)
    (net net_then : NetData P) (end : ServeEnd) : Type 0 where
  pub plant_is : IsPlant plant
  pub answer : Result PlantDone ServeFault
  pub traces : List TraceData
  pub new : All IsNewTrace traces
  pub traces_then : List TraceData
  pub silent : NeverFail prefix traces_then
  pub served : ServedSo WasSent faults plant net net_then traces traces_then answer
  pub made : Snapshot
  pub makes : MakesFiles (names_for prefix (length plant.panels)) opened made
  pub back : List SinkEnd
  pub named :
      HaveNames (names_for prefix (length plant.panels)) (map (λ shown. shown.name) back)
  pub those : AreThoseOf prefix traces_then back
  pub takes : TakesAllBack back made now
  pub end_is : end ≡ answered_end (names_for prefix (length plant.panels)) answer

-- This came of serving a plant that was given. Where nothing is asked of the net, it is as it was.
abbrev pub PlantServiceEnds : {P : Type 0} → (P → List (List ℕ) → Type 0) → (P → ℕ) → PlantData
    → Option (List ℕ) → Snapshot → Snapshot → NetData P → NetData P → ServeEnd → Type 0
PlantServiceEnds WasSent faults plant prefix opened now net net_then end =
    ((net_then ≡ net) × (EndsUnready opened now end ⊎ EndsAtTrace plant prefix opened now end))
    ⊎ EndsServed WasSent faults plant prefix opened now net net_then end

-- An end has the status and the text of what came of serving. Whether it is a fault of the files, their count says.
pub record IsEndOf (served : ServeEnd) (end : End) : Type 0 where
  pub status_is : end.status ≡ (serve_end served).status
  pub text_is : end.text ≡ (serve_end served).text

-- What it promises of the plant and the prefix that are given, if the net showed this before and shows that now.
abbrev pub ServeRow : {P : Type 0} → (P → List (List ℕ) → Type 0) → (P → ℕ) → NetData P → NetData P
    → Promise parts Prefix
ServeRow WasSent faults net net_then given before now end status = (served : ServeEnd)
    × PlantServiceEnds WasSent faults given.0 given.1 before.files now.files net net_then served
    × IsEndOf served end

-- A run ends so, whatever these words say of its parts: while they are opened nothing is asked of the net.
abbrev pub ServesOn : {P : Type 0} → (P → List (List ℕ) → Type 0) → (P → ℕ) → List (List ℕ)
    → Moment → Moment → NetData P → NetData P → ℕ → Type 0
ServesOn WasSent faults words before now net net_then status = (said : AllSaid parts Prefix)
    → AllSay 0 parts Prefix words said
    → ((net_then ≡ net) × StopsAtOpening parts Prefix said before now status)
    ⊎ EndsOpened parts Prefix (ServeRow WasSent faults net net_then) said before now status
