-- What a service that ends with 0 has done, in one record: every session to its end, in one closed history.
use Rattle.std.specs.Prelude.{◌≡◌, ℕ, Bool, List, ◌∷◌, ◌++◌, length, map, All, IfSome, Ok}
use Rattle.ctl_io.specs.Custody.{SinkEnd}
use Rattle.ctl_io.specs.Sink.{appended}
use Rattle.ctl_io.specs.Source.{IsAtEnd}
use Rattle.dle_framing.specs.Items.{items}
use Rattle.history_lock.specs.History.{entries_of, run}
use Rattle.history_lock.specs.Locks.{LockData}
use Rattle.plant_config.specs.Plant.{PlantData}
use Rattle.plant_core.specs.Displays.{value_of}
use Rattle.plant_core.specs.HistoryLaws.{KeepsTiesValid}
use Rattle.plant_core.specs.State.{State, start}
use Rattle.plant_core.specs.Step.{step}
use Rattle.plant_core.specs.declared.answer.Answer.{Answer}
use Rattle.plant_core.specs.declared.answer.Answer.TheVariants.{Lamp}
use Rattle.plant_core.specs.declared.request.Request.TheVariants.{DisplayPoll}
use Rattle.panel_session.specs.declared.serve.SessionEnd.TheVariants.{Ended}
use Rattle.panel_session.specs.Entry.{PlantEntry}
use Rattle.panel_session.specs.Served.{TraceData, all_read}
use Rattle.panel_session.specs.Text.{IsText}
use Rattle.panel_session.specs.Turns.{FitsReads}
use Rattle.panel_server.specs.PanelServed.{LinkServed}
use Rattle.panel_server.specs.PlantServed.{NetData, PanelRun, PlantServed, ShareLines}
use Rattle.panel_server.specs.declared.displays.DriverEnd.TheVariants.{Finished}
use Rattle.command_words.specs.Parts.{Prefix, AllSaid}
use Rattle.command_rows.specs.Moment.{Snapshot, Moment}
use Rattle.command_rows.specs.Opener.{AllLead}
use Rattle.command_serve.specs.Traces.{names_for, TakesAllBack}
use Rattle.command_serve.specs.Serve.{parts, served_lines, AreThoseOf, HaveNames, IsNewTrace}
use Rattle.command_serve.specs.Laws.{Serves}

-- A link was served whole: its session ended as the link did, at the end of what that had. Its entries answer all that it read,
-- and what was written to the link, where it shows that, is the whole text of that session.
pub record IsServedWhole {plant : PlantData} {panel turns : ℕ} (one : LinkServed plant panel turns)
    : Type 0 where
  pub ended : one.end ≡ Ended
  pub at_end : IsAtEnd one.link_then.read_half.left
  pub fits : FitsReads panel one.served.reads (entries_of one.seat.number one.served.new)
  pub text : List ℕ
  pub is_text : IsText plant (items (all_read one.served.reads))
      (entries_of one.seat.number one.served.new) text
  pub written : IfSome one.link_then.written (λ bytes. bytes ≡ text)

-- A panel was served whole: each of its links was, and its acceptor has no session left.
pub record IsPanelWhole {plant : PlantData} {lock : LockData State} {past : List PlantEntry}
    (run : PanelRun plant lock past) : Type 0 where
  pub links : All IsServedWhole run.served.links
  pub none_left : run.acceptor_then.sessions ≡ 0

-- Where an answer is a lamp, it tells the value that its display has in a state, as it is found from what the destinations
-- carry there.
abbrev pub TellsItsValue : State → Answer → Type 0
TellsItsValue state (Lamp display value) = value ≡ value_of state display
TellsItsValue state answer = Unit {0}

-- At each place of a history the lamps that a display poll is answered with tell the values of that place.
abbrev pub LampsAreFound : PlantData → List PlantEntry → Type 0
LampsAreFound plant history = (front later : List PlantEntry) (entry : PlantEntry)
    → history ≡ front ++ entry ∷ later → (screen : ℕ) (refresh : Bool)
    → entry.request ≡ DisplayPoll screen refresh
    → All (TellsItsValue (run step (start plant) front)) entry.answers

-- The plant of a service was served whole, and this is the closed history. All panels were served whole, and the displays were
-- sent all that their polls told. At no place of the history does a tie carry two sources, and at each the lamps are those that
-- are found from what the destinations carry. The traces were new, share the lines of the history, each once, and where there is
-- a prefix they are what the sinks of its files show that were given back.
pub record WasServedWhole {P : Type 0} (WasSent : P → List (List ℕ) → Type 0) (faults : P → ℕ)
    (said : AllSaid parts Prefix) (before now : Moment) (net net_then : NetData P)
    : Type 0 where
  pub plant : PlantData
  pub opened : Snapshot
  pub lead : AllLead parts Prefix said before.files opened (Ok (plant, said.1))
  pub history : List PlantEntry
  pub traces : List TraceData
  pub traces_then : List TraceData
  pub served : PlantServed WasSent faults plant history net net_then traces traces_then
  pub panels : All IsPanelWhole served.panels
  pub sent : ℕ
  pub displays : served.displays.end ≡ Finished sent 0
  pub ties : KeepsTiesValid plant history
  pub lamps : LampsAreFound plant history
  pub new : All IsNewTrace traces
  pub shared : ShareLines plant history traces traces_then
  pub back : List SinkEnd
  pub named :
      HaveNames (names_for said.1 (length plant.panels)) (map (λ shown. shown.name) back)
  pub those : AreThoseOf said.1 traces_then back
  pub made : Snapshot
  pub takes : TakesAllBack back made now.files
  pub sessions : ℕ
  pub appends : now.output.written
      ≡ appended before.output.written (served_lines sessions (length history))

-- A service that ends with 0 has served its plant whole.
abbrev pub ZeroServesWhole : {P : Type 0} → (P → List (List ℕ) → Type 0) → (P → ℕ) → Type 0
ZeroServesWhole {P} WasSent faults =
    (said : AllSaid parts Prefix) (before now : Moment) (net net_then : NetData P)
    → Serves WasSent faults said before now net net_then 0
    → WasServedWhole WasSent faults said before now net net_then
