-- What was opened is crewed, and what its workers did, and gave back, is told.
use Rattle.std.proofs.Common.{◌≡◌, ℕ, ◌+◌, ◌<◌, ◌≤◌, ◌^◌, List, ◌++◌, length, map, slice_index_or, take, drop, Option, Some, All, sym, ap, ◌∙◌, subst, arith}
use Rattle.std.specs.List.{AllZip}
use Rattle.std.proofs.lemmas.List.{length-map, take_at}
use Rattle.std.proofs.lemmas.Simd.{map-map}
use Rattle.ctl_io.specs.Custody.{SinkEnd}
use Rattle.ctl_net.specs.Acceptor.{AcceptorData}
use Rattle.ctl_net.specs.Net.{IsFreshPort, TakesAll, port_end}
use Rattle.ctl_net.specs.declared.opening.Opening.{Opening}
use Rattle.ctl_net.specs.declared.opening.Opening.TheVariants.{Display}
use Rattle.history_lock.specs.Closing.{HasAll, IsOf}
use Rattle.history_lock.specs.Locks.{new_seat}
use Rattle.plant_config.specs.Plant.{PlantData}
use Rattle.plant_core.specs.State.{start}
use Rattle.panel_session.specs.Entry.{PlantEntry}
use Rattle.panel_session.specs.Served.{PlantSeat, TraceData, trace_shows}
use Rattle.panel_server.specs.declared.displays.DriverEnd.{DriverEnd}
use Rattle.panel_server.specs.declared.room.ServeRoom.{ServeRoom}
use Rattle.panel_server.specs.declared.sums.Sums.{Sums}
use Rattle.panel_server.specs.declared.worker.Worker.{Worker}
use Rattle.panel_server.specs.PlantServed.{NetData, ServedSo, lost_at}
use Rattle.panel_server.specs.ServeInside.{CountsFew, IsOpenedFor, MayGiveAll, after_all, crew, ends_from, no_sums, opened_acceptors, sums_from, sums_answer, with_port}
use Rattle.panel_server.specs.Workers.{HasDoneWork, MayWork, WorkerData, seat_of, trace_sink_of, sink_shows, trace_of, worker_shows}
use Rattle.panel_server.proofs.CrewLemmas.{CrewRuns, IsNewCrew, runs_of}
use Rattle.panel_server.proofs.FewLemmas.{all_few, lost_few, may_give}
use Rattle.panel_server.proofs.KeptLemmas.{AreSeatsFrom, all_of, crew_long, crew_sinks, has_all, seats_kept}
use Rattle.panel_server.proofs.NewCrewLemmas.{all_shown, ends_long, may_all, new_all, new_crew, own_all, zip_of}
use Rattle.panel_server.proofs.ServedLemmas.{IsClosed, crew_served, seats_in}

module _ {A P K : Type 0} (acceptor_shows : A → AcceptorData) (port_opening : P → Option Opening) (name written : K → Option (List ℕ)) (sink_faults : K → ℕ)
    (WasSent : P → List (List ℕ) → Type 0) (faults : P → ℕ) (plant : PlantData) (room : ServeRoom A P K) (port : P) (traces : List K) (made : List (Worker A P K)) where
  abbrev shows : Worker A P K → WorkerData P
  shows worker = worker_shows acceptor_shows port_opening name written sink_faults worker

  abbrev sink : K → SinkEnd
  sink trace = sink_shows name written sink_faults trace

  -- These workers were made of what was opened.
  pub record HasCrew : Type 0 where
    pub opened : IsOpenedFor acceptor_shows plant room
    pub traces_count : length traces ≡ length plant.panels + 1
    pub port_new : IsFreshPort (WasSent port) (faults port)
    pub port_own : port_opening port ≡ Some (Display plant.server.display)
    pub made_is : map (worker_shows acceptor_shows port_opening name written sink_faults) made
        ≡ crew 0 room.sessions.items room.seats.items (ends_from acceptor_shows 0 room.lists.acceptors.items) (map (sink_shows name written sink_faults) traces) (port_end (port_opening port) port)

  new_of : HasCrew → IsNewCrew WasSent faults plant room.lock 0 (map shows made)
  new_of crewed =
      let opened = crewed.opened in
      let panels = length plant.panels in
      let long : length (map sink traces) ≡ length traces = length-map traces sink in
      subst (λ (all : List (WorkerData P)). IsNewCrew WasSent faults plant room.lock 0 all) (sym crewed.made_is)
      (new_crew acceptor_shows WasSent faults plant room.lock 0 room.sessions.items room.seats.items room.lists.acceptors.items (map sink traces) (port_end (port_opening port) port)
      opened.new_sessions (new_all plant room.lock (panels + 1) room.seats.items opened.seats opened.seat_count) opened.acceptors (own_all acceptor_shows plant room.lists.acceptors.items opened.own) crewed.port_new crewed.port_own
      (omega (arith, opened.session_count, opened.acceptor_count)) (omega (arith, opened.seat_count, opened.acceptor_count))
      (omega (arith, crewed.traces_count, opened.acceptor_count, long)) (omega (arith, opened.acceptor_count)))

  -- each may begin
  pub may_of : (takes : List ℕ → Type 0) → HasCrew → TakesAll takes
      → All (λ worker. MayWork takes plant room.lock (worker_shows acceptor_shows port_opening name written sink_faults worker)) made
  may_of takes crewed all =
      all_shown shows (MayWork takes plant room.lock) made
      (may_all acceptor_shows WasSent faults plant room.lock takes crewed.opened.is_plant all 0 (map shows made) (new_of crewed))

  pub long_of : HasCrew → length made ≡ length plant.panels + 1
  long_of crewed =
      let all : 0 + length (map shows made) ≡ length plant.panels + 1 = crew_long WasSent faults plant room.lock 0 (map shows made) (new_of crewed) in
      let same : length (map shows made) ≡ length made = length-map made shows in
      omega (arith, all, same)

  sinks_were : HasCrew → map trace_sink_of (map shows made) ≡ map sink traces
  sinks_were crewed =
      let opened = crewed.opened in
      let long : length (map sink traces) ≡ length traces = length-map traces sink in
      let acceptors = ends_from acceptor_shows 0 room.lists.acceptors.items in
      let ends : length acceptors ≡ length room.lists.acceptors.items = ends_long acceptor_shows 0 room.lists.acceptors.items in
      ap (λ (all : List (WorkerData P)). map trace_sink_of all) crewed.made_is
      ∙ crew_sinks 0 room.sessions.items room.seats.items acceptors (map sink traces) (port_end (port_opening port) port) (omega (arith, ends, opened.session_count, opened.acceptor_count))
      (omega (arith, ends, opened.seat_count, opened.acceptor_count)) (omega (arith, ends, long, crewed.traces_count, opened.acceptor_count))

  -- They did their work, and are these now.
  pub record HaveWorked (worked : List (Worker A P K)) : Type 0 where
    pub crewed : HasCrew
    pub long : length worked ≡ length made
    pub did : (k : ℕ) (other : Worker A P K) → k < length made
        → HasDoneWork WasSent faults plant (worker_shows acceptor_shows port_opening name written sink_faults (slice_index_or made k other))
        (worker_shows acceptor_shows port_opening name written sink_faults (slice_index_or worked k other))

  -- so it is of a vector, whose workers worked as a slice
  pub worked_of : (len : ℕ) (slice end : List (Worker A P K)) → HasCrew → slice ≡ made → length slice ≡ len → length end ≡ length slice
      → ((k : ℕ) (other : Worker A P K) → k < length slice
      → HasDoneWork WasSent faults plant (worker_shows acceptor_shows port_opening name written sink_faults (slice_index_or slice k other))
      (worker_shows acceptor_shows port_opening name written sink_faults (slice_index_or end k other)))
      → HaveWorked (take len (end ++ drop (length end) made))
  worked_of len slice end crewed is long same did =
      let One = Worker A P K in
      let count : length end ≡ len = omega (arith, same, long) in
      subst (λ (items : List One). HaveWorked items) (sym (take_at end (drop (length end) made) len count))
      (record {
        crewed = crewed;
        long = same ∙ ap (λ (items : List One). length items) is;
        did = subst (λ (items : List One). (k : ℕ) (other : One) → k < length items → HasDoneWork WasSent faults plant (shows (slice_index_or items k other)) (shows (slice_index_or end k other))) is did;
      })

  zip : (worked : List (Worker A P K)) → HaveWorked worked → AllZip (HasDoneWork WasSent faults plant) (map shows made) (map shows worked)
  zip worked have = zip_of shows (HasDoneWork WasSent faults plant) made worked have.long have.did

  -- each counted few
  pub few_of : (worked : List (Worker A P K)) → HaveWorked worked
      → All (λ worker. CountsFew (worker_shows acceptor_shows port_opening name written sink_faults worker)) worked
  few_of worked have =
      all_shown shows CountsFew worked (all_few WasSent faults plant room.lock have.crewed.opened.is_plant 0 (map shows made) (map shows worked) (new_of have.crewed) (zip worked have))

  -- what they have may be given back
  pub give_of : (worked : List (Worker A P K)) → HaveWorked worked → (net : NetData P) → length plant.panels ≤ net.acceptors.out → 0 < net.ports.out
      → MayGiveAll faults (map (worker_shows acceptor_shows port_opening name written sink_faults) worked) net
  give_of worked have net out port_out =
      may_give WasSent faults plant room.lock 0 (map shows made) (map shows worked) (new_of have.crewed) (zip worked have) net (omega (arith, out)) port_out

  -- They gave their seats back.
  pub record AreBack (worked : List (Worker A P K)) (back : List PlantSeat) : Type 0 where
    pub have : HaveWorked worked
    pub seats : back ≡ room.lists.seats.items ++ map (λ worker. seat_of (worker_shows acceptor_shows port_opening name written sink_faults worker)) worked

  back_is : (worked : List (Worker A P K)) (back : List PlantSeat) → AreBack worked back → back ≡ map seat_of (map shows worked)
  back_is worked back are =
      are.seats ∙ ap (λ (all : List PlantSeat). all ++ map (λ (worker : Worker A P K). seat_of (shows worker)) worked) are.have.crewed.opened.no_seats
      ∙ sym (map-map seat_of shows worked)

  seats_from : (worked : List (Worker A P K)) → HaveWorked worked → AreSeatsFrom room.lock 0 (map seat_of (map shows worked))
  seats_from worked have = seats_kept WasSent faults plant room.lock 0 (map shows made) (map shows worked) (new_of have.crewed) (zip worked have)

  -- all of them are the lock's, and they are all of its seats
  pub own_of : (worked : List (Worker A P K)) (back : List PlantSeat) → AreBack worked back → All (IsOf room.lock.id) back
  own_of worked back are =
      subst (λ (all : List PlantSeat). All (IsOf room.lock.id) all) (sym (back_is worked back are))
      (all_of room.lock 0 (map seat_of (map shows worked)) (seats_from worked are.have))

  pub seats_of : (worked : List (Worker A P K)) (back : List PlantSeat) → AreBack worked back → HasAll room.lock.seats back
  seats_of worked back are =
      let panels = length plant.panels in
      let seats = map seat_of (map shows worked) in
      let some : length seats ≡ length (map shows worked) = length-map (map shows worked) seat_of in
      let same : length (map shows worked) ≡ length worked = length-map worked shows in
      let all : length made ≡ panels + 1 = long_of are.have.crewed in
      let long : length seats ≡ panels + 1 = omega (arith, some, same, are.have.long, all) in
      subst (λ (count : ℕ). HasAll count back) (sym are.have.crewed.opened.lock.1)
      (subst (λ (seats : List PlantSeat). HasAll (panels + 1) seats) (sym (back_is worked back are))
      (has_all room.lock (panels + 1) seats (seats_from worked are.have) long))

  -- The lock was closed with them, and these are the sums of what was done.
  pub record AreClosed (worked : List (Worker A P K)) (back : List PlantSeat) (entries : ℕ) (past : List PlantEntry) (sums : Sums) : Type 0 where
    pub are : AreBack worked back
    pub closed : IsClosed room.lock back entries past
    pub sums_are : sums ≡ sums_from 0 (map (worker_shows acceptor_shows port_opening name written sink_faults) worked) no_sums

  closed_of : (worked : List (Worker A P K)) (back : List PlantSeat) (entries : ℕ) (past : List PlantEntry) (sums : Sums) → AreClosed worked back entries past sums
      → IsClosed room.lock (map seat_of (map shows worked)) entries past
  closed_of worked back entries past sums told = subst (λ (all : List PlantSeat). IsClosed room.lock all entries past) (back_is worked back told.are) told.closed

  runs : (worked : List (Worker A P K)) (back : List PlantSeat) (entries : ℕ) (past : List PlantEntry) (sums : Sums) → AreClosed worked back entries past sums
      → CrewRuns WasSent faults plant room.lock past 0 (map shows made) (map shows worked)
  runs worked back entries past sums told =
      runs_of WasSent faults plant room.lock past 0 (map shows made) (map shows worked) (new_of told.are.have.crewed) (zip worked told.are.have)
      (seats_in room.lock (map seat_of (map shows worked)) entries past (closed_of worked back entries past sums told))

  -- no more was lost than the history has entries
  pub lost_of : (worked : List (Worker A P K)) (back : List PlantSeat) (entries : ℕ) (past : List PlantEntry) (sums : Sums) → AreClosed worked back entries past sums → lost_at sums.end ≤ 2 ^ 62
  lost_of worked back entries past sums told =
      let run = runs worked back entries past sums told in
      let displays = run.displays in
      let few : length past ≤ 2 ^ 62 = omega (arith, told.closed.entries_are, told.closed.limit) in
      let end : displays.end ≡ sums.end = sym (ap (λ (s : Sums). s.end) told.sums_are ∙ (run.added no_sums).end) in
      subst (λ (end : DriverEnd). lost_at end ≤ 2 ^ 62) end
      (lost_few WasSent faults plant displays.end (new_seat room.lock.id (start plant) (length plant.panels)) displays.seat_then displays.port displays.port_then displays.trace displays.trace_then past displays.driven displays.seat_in.seen few)

  -- They gave their traces back.
  pub record AreTold (worked : List (Worker A P K)) (back : List PlantSeat) (entries : ℕ) (past : List PlantEntry) (sums : Sums) (traces_then : List K) : Type 0 where
    pub closed : AreClosed worked back entries past sums
    pub sinks : map (sink_shows name written sink_faults) traces_then
        ≡ map (sink_shows name written sink_faults) room.lists.traces.items ++ map (λ worker. trace_sink_of (worker_shows acceptor_shows port_opening name written sink_faults worker)) worked

  sinks_are : (worked : List (Worker A P K)) (back : List PlantSeat) (entries : ℕ) (past : List PlantEntry) (sums : Sums) (traces_then : List K) → AreTold worked back entries past sums traces_then
      → map sink traces_then ≡ map trace_sink_of (map shows worked)
  sinks_are worked back entries past sums traces_then told =
      told.sinks ∙ ap (λ (all : List K). map sink all ++ map (λ (worker : Worker A P K). trace_sink_of (shows worker)) worked) told.closed.are.have.crewed.opened.no_traces
      ∙ sym (map-map trace_sink_of shows worked)

  -- So the plant was served, and each trace has its name.
  pub served_of : (worked : List (Worker A P K)) (back : List PlantSeat) (entries : ℕ) (past : List PlantEntry) (sums : Sums) (traces_then : List K) (net net_then : NetData P)
      → AreTold worked back entries past sums traces_then
      → net_then ≡ after_all faults (map (worker_shows acceptor_shows port_opening name written sink_faults) worked) (with_port plant.server (opened_acceptors plant (length plant.panels) net))
      → ServedSo WasSent faults plant net net_then (map (trace_shows written sink_faults) traces) (map (trace_shows written sink_faults) traces_then) (sums_answer sums entries past)
  served_of worked back entries past sums traces_then net net_then are net_is =
      let closed = are.closed in
      let crewed = closed.are.have.crewed in
      let trace : WorkerData P → TraceData = λ worker. trace_of (trace_sink_of worker) in
      let were : map trace (map shows made) ≡ map (trace_shows written sink_faults) traces =
      sym (map-map trace_of trace_sink_of (map shows made)) ∙ ap (λ (sinks : List SinkEnd). map trace_of sinks) (sinks_were crewed) ∙ map-map trace_of sink traces in
      let end : map trace (map shows worked) ≡ map (trace_shows written sink_faults) traces_then =
      sym (map-map trace_of trace_sink_of (map shows worked)) ∙ ap (λ (sinks : List SinkEnd). map trace_of sinks) (sym (sinks_are worked back entries past sums traces_then are)) ∙ map-map trace_of sink traces_then in
      subst (λ (all : List TraceData). ServedSo WasSent faults plant net net_then all (map (trace_shows written sink_faults) traces_then) (sums_answer sums entries past)) were
      (subst (λ (all : List TraceData). ServedSo WasSent faults plant net net_then (map trace (map shows made)) all (sums_answer sums entries past)) end
      (crew_served WasSent faults plant room.lock (map shows made) (map shows worked) net net_then sums entries past (new_of crewed) (zip worked closed.are.have) crewed.opened.lock
      (closed_of worked back entries past sums closed) net_is closed.sums_are))

  pub names_of : (worked : List (Worker A P K)) (back : List PlantSeat) (entries : ℕ) (past : List PlantEntry) (sums : Sums) (traces_then : List K) → AreTold worked back entries past sums traces_then
      → map name traces_then ≡ map name traces
  names_of worked back entries past sums traces_then are =
      let closed = are.closed in
      let called : SinkEnd → Option (List ℕ) = λ sink. sink.name in
      let Names = λ (sinks : List SinkEnd). map called sinks in
      sym (map-map called sink traces_then) ∙ ap Names (sinks_are worked back entries past sums traces_then are) ∙ map-map called trace_sink_of (map shows worked)
      ∙ (runs worked back entries past sums closed).names
      ∙ sym (map-map called trace_sink_of (map shows made)) ∙ ap Names (sinks_were closed.are.have.crewed) ∙ map-map called sink traces
