-- Why a service ends with its status, and what leads to it. Each is a law over the ends of its row.
use Rattle.std.specs.Prelude.{◌≡◌, ◌≢◌, ◌⊎◌, ℕ, ◌<◌, List, [], ◌∷◌, length, slice_get, Option, Some, None, Ok}
use Rattle.ctl_io.specs.Faults.{Rose, one_more}
use Rattle.ctl_io.specs.Sink.{appended}
use Rattle.plant_config.specs.Plant.{PlantData}
use Rattle.panel_session.specs.Served.{TraceData}
use Rattle.panel_server.specs.PlantServed.{NetData, IsServed}
use Rattle.panel_server.specs.declared.plant.PlantDone.{PlantDone}
use Rattle.command_words.specs.Parts.{Prefix, AllSaid}
use Rattle.command_rows.specs.Moment.{Snapshot, Moment}
use Rattle.command_rows.specs.Lines.{file_fault}
use Rattle.command_rows.specs.End.{out_of_memory}
use Rattle.command_rows.specs.Opener.{AllLead}
use Rattle.command_rows.specs.Row.{StopsAtOpening, EndsOpened, RowRuns}
use Rattle.command_rows.specs.Shown.{AllShow}
use Rattle.command_rows.specs.RowLaws.{CouldNotWrite, WasStopped}
use Rattle.command_rows.specs.Sound.{IsOneOf}
use Rattle.command_serve.specs.Traces.{names_for}
use Rattle.command_serve.specs.Serve.{parts, ServeRow, ServeEnd, Unserved, NetRefused, Served, Telling, AllWell, NetFailed, LimitsMet, PlantServiceEnds, serve_end, name_at}

-- A run of the row ends so, if words say this of its parts: while they are opened nothing is asked of the net.
abbrev pub Serves : {P : Type 0} → (P → List (List ℕ) → Type 0) → (P → ℕ) → AllSaid parts Prefix
    → Moment → Moment → NetData P → NetData P → ℕ → Type 0
Serves WasSent faults said before now net net_then status =
    ((net_then ≡ net) × StopsAtOpening parts Prefix said before now status)
    ⊎ EndsOpened parts Prefix (ServeRow WasSent faults net net_then) said before now status

-- So what is said of every row is said of a service.
abbrev pub ServicesAreRows : {P : Type 0} → (P → List (List ℕ) → Type 0) → (P → ℕ) → Type 0
ServicesAreRows {P} WasSent faults =
    (said : AllSaid parts Prefix) (before now : Moment) (net net_then : NetData P) (status : ℕ)
    → Serves WasSent faults said before now net net_then status
    → RowRuns parts Prefix (ServeRow WasSent faults net net_then) said before now status

-- ---- what came of it

-- The plant's word led to a plant, this came of serving it, and exactly its text was appended.
pub record CameOf {P : Type 0} (WasSent : P → List (List ℕ) → Type 0) (faults : P → ℕ)
    (said : AllSaid parts Prefix) (served : ServeEnd) (before now : Moment)
    (net net_then : NetData P) : Type 0 where
  pub plant : PlantData
  pub opened : Snapshot
  pub lead : AllLead parts Prefix said before.files opened (Ok (plant, said.1))
  pub ends : PlantServiceEnds WasSent faults plant said.1 opened now.files net net_then served
  pub appends :
      now.output.written ≡ appended before.output.written (serve_end served).text

-- The plant was served, so that there is a closed history in which that was done, and exactly the lines of it were appended,
-- and the line of what is told of it.
pub record WasServed {P : Type 0} (WasSent : P → List (List ℕ) → Type 0) (faults : P → ℕ)
    (said : AllSaid parts Prefix) (telling : Telling) (before now : Moment)
    (net net_then : NetData P) : Type 0 where
  pub sessions : ℕ
  pub entries : ℕ
  pub came :
      CameOf WasSent faults said (Served sessions entries telling) before now net net_then

-- The net refused an opening, which its count shows, and exactly the line that says so was appended.
pub record WasNotOpened {P : Type 0} (WasSent : P → List (List ℕ) → Type 0) (faults : P → ℕ)
    (said : AllSaid parts Prefix) (before now : Moment) (net net_then : NetData P)
    : Type 0 where
  pub came : CameOf WasSent faults said NetRefused before now net net_then
  pub rose : net_then.open_faults ≡ one_more net.open_faults

-- A trace of a service could not be made, which the files' count of faults shows: nothing was asked of the net, and the line
-- has its name.
pub record MakesNoTrace {P : Type 0} (said : AllSaid parts Prefix) (before now : Moment)
    (net net_then : NetData P) : Type 0 where
  pub plant : PlantData
  pub opened : Snapshot
  pub lead : AllLead parts Prefix said before.files opened (Ok (plant, said.1))
  pub place : ℕ
  pub name : List ℕ
  pub at : slice_get (names_for said.1 (length plant.panels)) place ≡ Some name
  pub untouched : net_then ≡ net
  pub count_is : now.files.faults ≡ one_more before.files.faults
  pub appends : now.output.written ≡ appended before.output.written (file_fault name)

-- A status tells what was done, where traces have these names. These four exclude each other, so each stands exactly at its
-- status: a trace failed; or none did, and the net had a fault; or neither, and a limit was met; or nothing of all that.
abbrev pub TellsDone : List (List ℕ) → PlantDone → ℕ → Type 0
TellsDone names done status =
    ((status ≡ 3) × ((name : List ℕ) × (name_at names done.failed_trace ≡ Some name)))
    ⊎ ((status ≡ 8) × (name_at names done.failed_trace ≡ None) × (0 < done.net_faults))
    ⊎ ((status ≡ 9) × (name_at names done.failed_trace ≡ None) × (done.net_faults ≡ 0)
    × (0 < done.limits))
    ⊎ ((status ≡ 0) × (name_at names done.failed_trace ≡ None) × (done.net_faults ≡ 0)
    × (done.limits ≡ 0))

-- The plant of a service was served, and the status tells what was done.
pub record TellsService {P : Type 0} (WasSent : P → List (List ℕ) → Type 0) (faults : P → ℕ)
    (said : AllSaid parts Prefix) (before : Moment) (net net_then : NetData P) (status : ℕ)
    : Type 0 where
  pub plant : PlantData
  pub opened : Snapshot
  pub lead : AllLead parts Prefix said before.files opened (Ok (plant, said.1))
  pub traces : List TraceData
  pub traces_then : List TraceData
  pub done : PlantDone
  pub served : IsServed WasSent faults plant net net_then traces traces_then done
  pub tells : TellsDone (names_for said.1 (length plant.panels)) done status

-- Why a service ends with a status: opening stopped it, at the plant's word; memory ran out behind that; a trace could not be made;
-- the net refused an opening; the plant was served; or a write of the output failed.
abbrev pub ServiceHasCause : {P : Type 0} → (P → List (List ℕ) → Type 0) → (P → ℕ)
    → AllSaid parts Prefix → Moment → Moment → NetData P → NetData P → ℕ → Type 0
ServiceHasCause WasSent faults said before now net net_then status =
    ((net_then ≡ net) × WasStopped parts Prefix said before now status)
    ⊎ ((status ≡ 1)
    × CameOf WasSent faults said (Unserved out_of_memory) before now net net_then)
    ⊎ ((status ≡ 3) × MakesNoTrace said before now net net_then)
    ⊎ ((status ≡ 8) × WasNotOpened WasSent faults said before now net net_then)
    ⊎ TellsService WasSent faults said before net net_then status
    ⊎ CouldNotWrite before now status

abbrev pub ServicesHaveCauses : {P : Type 0} → (P → List (List ℕ) → Type 0) → (P → ℕ) → Type 0
ServicesHaveCauses {P} WasSent faults =
    (said : AllSaid parts Prefix) (before now : Moment) (net net_then : NetData P) (status : ℕ)
    → Serves WasSent faults said before now net net_then status
    → ServiceHasCause WasSent faults said before now net net_then status

-- A run that ends with 0 has served its plant, and all was well.
abbrev pub ZeroHasServed : {P : Type 0} → (P → List (List ℕ) → Type 0) → (P → ℕ) → Type 0
ZeroHasServed {P} WasSent faults =
    (said : AllSaid parts Prefix) (before now : Moment) (net net_then : NetData P)
    → Serves WasSent faults said before now net net_then 0
    → WasServed WasSent faults said AllWell before now net net_then

-- Of one that ends with 8 the net refused an opening, or the plant was served and the net had a fault, which its count of what came
-- back with faults shows.
abbrev pub EightHasCause : {P : Type 0} → (P → List (List ℕ) → Type 0) → (P → ℕ) → Type 0
EightHasCause {P} WasSent faults =
    (said : AllSaid parts Prefix) (before now : Moment) (net net_then : NetData P)
    → Serves WasSent faults said before now net net_then 8
    → WasNotOpened WasSent faults said before now net net_then
    ⊎ (WasServed WasSent faults said NetFailed before now net net_then
    × Rose net.close_faults net_then.close_faults)

-- One that ends with 9 has served its plant, of which a session, or the worker of the displays, ended by a limit.
abbrev pub NineMetLimits : {P : Type 0} → (P → List (List ℕ) → Type 0) → (P → ℕ) → Type 0
NineMetLimits {P} WasSent faults =
    (said : AllSaid parts Prefix) (before now : Moment) (net net_then : NetData P)
    → Serves WasSent faults said before now net net_then 9
    → WasServed WasSent faults said LimitsMet before now net net_then

-- A service ends with 0, 1, 3, 4, 8 or 9, or with 7 where a write failed.
abbrev pub ServiceStatusesAreKnown : {P : Type 0} → (P → List (List ℕ) → Type 0) → (P → ℕ)
    → Type 0
ServiceStatusesAreKnown {P} WasSent faults =
    (said : AllSaid parts Prefix) (before now : Moment) (net net_then : NetData P) (status : ℕ)
    → Serves WasSent faults said before now net net_then status
    → IsOneOf (0 ∷ 1 ∷ 3 ∷ 4 ∷ 8 ∷ 9 ∷ []) status ⊎ CouldNotWrite before now status

-- ---- what always comes

-- A service was kept from its end: memory ran out; the files had a fault, or a write of a trace failed; a write of the output
-- failed; or the net refused an opening, or something that it handed out came back with a fault. Their counts show it.
abbrev pub WasKeptFromServing : {P : Type 0} → Moment → Moment → NetData P → NetData P → ℕ
    → Type 0
WasKeptFromServing before now net net_then status =
    (status ≡ 1)
    ⊎ ((status ≡ 3) × Rose before.files.faults now.files.faults)
    ⊎ CouldNotWrite before now status
    ⊎ ((status ≡ 8) × (Rose net.open_faults net_then.open_faults
    ⊎ Rose net.close_faults net_then.close_faults))

-- A plant that the files show leads to 0 or to 9, unless the service is kept from its end.
abbrev pub ShownPlantIsServed : {P : Type 0} → (P → List (List ℕ) → Type 0) → (P → ℕ) → Type 0
ShownPlantIsServed {P} WasSent faults =
    (said : AllSaid parts Prefix) (plant : PlantData) (before now : Moment)
    (net net_then : NetData P) (status : ℕ)
    → AllShow parts Prefix said before.files.held (Ok (plant, said.1))
    → Serves WasSent faults said before now net net_then status
    → (status ≡ 0) ⊎ (status ≡ 9) ⊎ WasKeptFromServing before now net net_then status

-- An opening that the net refused, as its count shows, leads to 8, or to 7 where the line could not be written.
abbrev pub RefusedNetEndsWithEight : {P : Type 0} → (P → List (List ℕ) → Type 0) → (P → ℕ)
    → Type 0
RefusedNetEndsWithEight {P} WasSent faults =
    (said : AllSaid parts Prefix) (before now : Moment) (net net_then : NetData P) (status : ℕ)
    → net_then.open_faults ≢ net.open_faults
    → Serves WasSent faults said before now net net_then status
    → (status ≡ 8) ⊎ CouldNotWrite before now status
