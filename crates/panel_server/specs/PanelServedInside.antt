-- The links of a panel are served, one by one, and then it leaves.
use Rattle.std.specs.Prelude.{◌≡◌, ◌≢◌, ◌⊎◌, ℕ, ◌+◌, ◌||◌, Bool, true, false, if◌then◌else◌, List, [], length, map}
use Rattle.std.specs.List.{flat_map}
use Rattle.ctl_io.specs.Custody.{returned}
use Rattle.ctl_io.specs.Faults.{count_after}
use Rattle.ctl_io.specs.Sink.{appended}
use Rattle.ctl_net.specs.Acceptor.{LinkEnd, is_faulty_link}
use Rattle.ctl_net.specs.Net.{AcceptorEnd}
use Rattle.history_lock.specs.History.{entries_of}
use Rattle.history_lock.specs.Locks.{LockData}
use Rattle.plant_config.specs.IsPlant.{IsPlant}
use Rattle.plant_config.specs.Plant.{PlantData}
use Rattle.plant_core.specs.State.{State, start}
use Rattle.panel_session.specs.declared.serve.SessionEnd.{SessionEnd}
use Rattle.panel_session.specs.declared.session.Session.{Session}
use Rattle.panel_session.specs.Entry.{PlantEntry}
use Rattle.panel_session.specs.Served.{PlantSeat, Served, StandsOrAwaits, TraceData, own_lines, trace_failed_at, TracesUnless}
use Rattle.panel_session.specs.ServedInside.{SeesMore}
use Rattle.panel_session.specs.SoFar.{Progress}
use Rattle.panel_server.specs.PanelServed.{AreInTurn, LinkServed, all_returned, faults_back, is_full, is_limit, is_last_end, is_link_fault, leave_of, own_of, that_ended}
use Rattle.panel_server.specs.declared.panel.PanelDone.{PanelDone}

-- A session of a panel of the plant may be made anew.
abbrev pub MayBegin : PlantData → ℕ → Session → Type 0
MayBegin plant panel session = (past : Progress) × StandsOrAwaits plant panel session past

-- A session may be made anew, its seat is one of the lock, and the lock was made with the start of its plant.
pub record MayServeOn (session : Session) (lock : LockData State) (seat : PlantSeat) : Type 0 where
  pub plant : PlantData
  pub panel : ℕ
  pub begins : MayBegin plant panel session
  pub is_plant : IsPlant plant
  pub seat_of : seat.lock ≡ lock.id
  pub first : seat.first ≡ start plant

-- A session was served over a link, which then was given back to its acceptor.
pub record GivesBack (plant : PlantData) (panel turns : ℕ) (end : SessionEnd)
    (session_then : Session) (seat seat_then : PlantSeat) (link : LinkEnd)
    (acceptor acceptor_then : AcceptorEnd) (trace trace_then : TraceData) : Type 0 where
  pub link_then : LinkEnd
  pub served : Served plant panel turns end session_then seat seat_then link link_then trace
      trace_then
  pub acceptor_is : acceptor_then ≡ record acceptor {
    links = returned link_then acceptor.links;
    done_faults = count_after (is_faulty_link link_then.write_faults link_then.read_half)
        acceptor.done_faults;
  }

-- what the worker of a panel has counted, once one session more ended so
abbrev pub with_session : SessionEnd → PanelDone → PanelDone
with_session end done = record done {
  sessions = done.sessions + 1;
  link_faults = if is_link_fault end then done.link_faults + 1 else done.link_faults;
  limits = if is_limit end then done.limits + 1 else done.limits;
  trace_failed = done.trace_failed || trace_failed_at end;
}

-- Some links were served, one behind the other, and counted so, from one seat, acceptor and trace to others.
pub record ServedLinks (plant : PlantData) (panel turns : ℕ) (done : PanelDone)
    (seat seat_then : PlantSeat) (acceptor acceptor_then : AcceptorEnd)
    (trace trace_then : TraceData) : Type 0 where
  pub links : List (LinkServed plant panel turns)
  pub new : List PlantEntry
  pub lines : List ℕ
  pub used : acceptor.sessions ≡ acceptor_then.sessions + length links
  pub back : acceptor_then.links ≡ all_returned (map (λ one. one.link_then) links) acceptor.links
  pub in_turn : AreInTurn seat trace links seat_then trace_then
  pub sees : SeesMore plant seat seat_then new
  pub own : entries_of seat.number new ≡ flat_map own_of links
  pub full : that_ended is_full links ≢ [] → seat_then.ticket_full ≡ true
  pub traced : trace_then.written ≡ appended trace.written lines
  pub traces : TracesUnless done.trace_failed
      (own_lines plant seat.number (length seat.seen) new) lines
  pub trace_count : trace_then.faults ≡ count_after done.trace_failed trace.faults
  pub torn : that_ended trace_failed_at links ≢ [] → done.trace_failed ≡ true
  pub sessions : done.sessions ≡ length links
  pub link_faults : done.link_faults ≡ length (that_ended is_link_fault links)
  pub limits : done.limits ≡ length (that_ended is_limit links)
  pub done_count : acceptor_then.done_faults ≡ faults_back links acceptor.done_faults
  pub next_count : acceptor_then.next_faults ≡ count_after done.refused acceptor.next_faults

-- No further link is taken: one was refused, or none is left, or none is asked for behind the last one.
pub record TakesNoMore {plant : PlantData} {panel turns : ℕ} (done : PanelDone) (full : Bool)
    (links : List (LinkServed plant panel turns)) (sessions : ℕ) : Type 0 where
  pub full_is : full ≡ true → that_ended is_full links ≢ []
  pub full_not : full ≡ false → that_ended is_full links ≡ []
  pub failed : done.trace_failed ≡ true → that_ended trace_failed_at links ≢ []
  pub refused : done.refused ≡ true → that_ended is_last_end links ≡ []
  pub left : sessions ≢ 0 → (done.refused ≡ true) ⊎ (that_ended is_last_end links ≢ [])

-- All links that are taken were served.
pub record ServedAll (plant : PlantData) (panel turns : ℕ) (done : PanelDone) (full : Bool)
    (seat seat_then : PlantSeat) (acceptor acceptor_then : AcceptorEnd)
    (trace trace_then : TraceData) : Type 0 where
  pub served : ServedLinks plant panel turns done seat seat_then acceptor acceptor_then trace
      trace_then
  pub over : TakesNoMore done full served.links acceptor_then.sessions

-- The panel's leave was made and traced, or it found that the history has no place. Where a write of the trace had failed, no
-- line is written.
pub record HasLeft (plant : PlantData) (panel : ℕ) (failed failed_then : Bool)
    (seat seat_then : PlantSeat) (trace trace_then : TraceData) : Type 0 where
  pub new : List PlantEntry
  pub lines : List ℕ
  pub sees : SeesMore plant seat seat_then new
  pub own : entries_of seat.number new ≡ leave_of seat_then.ticket_full seat.number panel
  pub traced : trace_then.written ≡ appended trace.written lines
  pub traces : failed ≡ false → TracesUnless failed_then
      (own_lines plant seat.number (length seat.seen) new) lines
  pub count : failed ≡ false → trace_then.faults ≡ count_after failed_then trace.faults
  pub none : failed ≡ true → (trace_then ≡ trace) × (failed_then ≡ true) × (lines ≡ [])
