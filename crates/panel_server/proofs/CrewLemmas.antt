-- What the workers of a plant have done, put together.
use Rattle.std.proofs.Common.{◌≡◌, ℕ, zero, suc, ◌+◌, ◌-◌, ◌<◌, ◌≤◌, ◌^◌, Bool, true, false, if◌then◌else◌, List, [], ◌∷◌, ◌++◌, length, map, take, slice_get, Option, Some, None, IfSome, Ok, Err, All, inr, refl, sym, ap, ◌∙◌, subst, arith}
use Rattle.std.specs.List.{AllZip}
use Rattle.std.specs.Option.{option_map}
use Rattle.std.proofs.lemmas.List.{append-nil, take_all}
use Rattle.std.proofs.lemmas.List.Elements.{All-head, All-tail}
use Rattle.ctl_io.specs.Custody.{Custody, returned}
use Rattle.ctl_io.specs.Faults.{Rose, count_after, is_faulty}
use Rattle.ctl_net.specs.Net.{AcceptorEnd, IsFreshAcceptor, IsFreshPort, port_end}
use Rattle.ctl_net.specs.declared.opening.Opening.{Opening}
use Rattle.ctl_net.specs.declared.opening.Opening.TheVariants.{Display}
use Rattle.history_lock.specs.History.{IsLegal}
use Rattle.history_lock.specs.Locks.{LockData, new_seat}
use Rattle.plant_config.specs.Plant.{PlantData}
use Rattle.plant_core.specs.State.{State, start, Fits as Takes}
use Rattle.plant_core.specs.Step.{step}
use Rattle.panel_session.specs.Entry.{PlantEntry}
use Rattle.panel_session.specs.Served.{PlantSeat, TraceData}
use Rattle.panel_session.specs.Session.{StandsFor}
use Rattle.panel_session.specs.SoFar.{nothing_yet}
use Rattle.panel_server.specs.declared.plant.ServeFault.TheVariants as failures
use Rattle.panel_server.specs.declared.sums.Sums.{Sums}
use Rattle.panel_server.specs.Driven.{Driven}
use Rattle.panel_server.specs.PanelServed.{PanelServed, all_returned}
use Rattle.panel_server.specs.PlantServed.{DisplayRun, IsSeatIn, NetData, PanelRun, PlantServed, ServedSo, acceptor_openings, ends_unborn, faulty_back, lost_at, opened_all}
use Rattle.panel_server.specs.ServeInside.{after_all, no_sums, opened_acceptors, sums_from, sums_answer, with_closed, with_closed_port, with_panel, with_port}
use Rattle.panel_server.specs.Workers.{DisplayData, HasDriven, HasServedPanel, HasDoneWork, PanelData, WorkerData, of_displays, of_panel, seat_of, trace_sink_of, trace_of}
use Rattle.panel_server.proofs.CauseLemmas.{cause_of}
use Rattle.panel_server.proofs.CountLemmas.{AreAdded, added_first, added_last, counted}
use Rattle.panel_server.proofs.OpenLemmas.{back_both, opened_both, openings_count}

none_back : {X : Type 0} (custody : Custody X) → custody ≡ record (all_returned [] custody) { out = custody.out - 0 }
none_back {X} custody =
    let same : custody.out ≡ custody.out - 0 = omega arith in
    ap (λ (n : ℕ). record custody { out = n }) same
    ∙ ap (λ (back : Option (List X)). record custody { out = custody.out - 0; back = back }) (nothing custody.back)
  where
    nothing : (shown : Option (List X)) → shown ≡ option_map (λ (back : List X). back ++ []) shown
    nothing None = refl
    nothing (Some former) = ap (λ (all : List X). Some all) (sym (append-nil former))

-- The worker of a panel is new, and so is that of the displays.
pub record IsNewPanel (plant : PlantData) (lock : LockData State) (number : ℕ) (panel : PanelData) : Type 0 where
  pub number_is : panel.number ≡ number
  pub stands : StandsFor plant number panel.session nothing_yet
  pub seat_is : panel.seat ≡ new_seat lock.id (start plant) number
  pub fresh : IsFreshAcceptor panel.acceptor.links panel.acceptor.next_faults panel.acceptor.done_faults
  pub most : panel.acceptor.sessions ≤ plant.server.sessions
  pub own : panel.acceptor.opening ≡ slice_get (acceptor_openings plant.server 0 plant.panels) number

pub record IsNewDriver {P : Type 0} (WasSent : P → List (List ℕ) → Type 0) (faults : P → ℕ) (plant : PlantData) (lock : LockData State) (number : ℕ) (displays : DisplayData P) : Type 0 where
  pub last : number ≡ length plant.panels
  pub seat_is : displays.seat ≡ new_seat lock.id (start plant) number
  pub fresh : IsFreshPort (WasSent displays.port.port) (faults displays.port.port)
  pub own : displays.port.opening ≡ Some (Display plant.server.display)

abbrev pub IsNewCrew : {P : Type 0} → (P → List (List ℕ) → Type 0) → (P → ℕ) → PlantData → LockData State → ℕ → List (WorkerData P) → Type 0
IsNewCrew WasSent faults plant lock number [] = ⊥
IsNewCrew WasSent faults plant lock number (of_panel panel ∷ later) = IsNewPanel plant lock number panel × IsNewCrew WasSent faults plant lock (number + 1) later
IsNewCrew WasSent faults plant lock number (of_displays displays ∷ []) = IsNewDriver WasSent faults plant lock number displays
IsNewCrew WasSent faults plant lock number (of_displays displays ∷ other ∷ later) = ⊥

-- the numbers of panels, with one more before them
numbered_more : {plant : PlantData} {lock : LockData State} {past : List PlantEntry} (number : ℕ) (run : PanelRun plant lock past) (runs : List (PanelRun plant lock past)) → run.panel ≡ number
    → ((k : ℕ) (other : PanelRun plant lock past) → slice_get runs k ≡ Some other → other.panel ≡ number + 1 + k)
    → (k : ℕ) (other : PanelRun plant lock past) → slice_get (run ∷ runs) k ≡ Some other → other.panel ≡ number + k
numbered_more {plant} {lock} {past} number run runs is later zero other at =
    let Is : Option (PanelRun plant lock past) → Type 0 = λ first. IfSome first (λ (one : PanelRun plant lock past). run.panel ≡ one.panel) in
    let same : run.panel ≡ other.panel = subst Is at refl in
    omega (arith, same, is)
numbered_more number run runs is later (suc k) other at = omega (arith, later k other at)

module _ {P : Type 0} (WasSent : P → List (List ℕ) → Type 0) (faults : P → ℕ) (plant : PlantData) (lock : LockData State) (past : List PlantEntry) where
  -- What a crew has done, of which the first is the worker of the panel of this number.
  pub record CrewRuns (number : ℕ) (crew crew_then : List (WorkerData P)) : Type 0 where
    pub panels : List (PanelRun plant lock past)
    pub displays : DisplayRun WasSent faults plant lock past
    pub count : number + length panels ≡ length plant.panels
    pub numbered : (k : ℕ) (run : PanelRun plant lock past) → slice_get panels k ≡ Some run → run.panel ≡ number + k
    pub were : map (λ worker. trace_of (trace_sink_of worker)) crew ≡ map (λ run. run.trace) panels ++ displays.trace ∷ []
    pub are : map (λ worker. trace_of (trace_sink_of worker)) crew_then ≡ map (λ run. run.trace_then) panels ++ displays.trace_then ∷ []
    pub names : map (λ worker. (trace_sink_of worker).name) crew_then ≡ map (λ worker. (trace_sink_of worker).name) crew
    pub net_is : (net : NetData P) → after_all faults crew_then net ≡ record net {
      acceptors = record (all_returned (map (λ run. run.acceptor_then) panels) net.acceptors) { out = net.acceptors.out - length panels };
      ports = returned (port_end displays.opening displays.port_then) net.ports;
      close_faults = count_after (is_faulty (faults displays.port_then)) (faulty_back (map (λ run. run.acceptor_then) panels) net.close_faults);
    }
    pub added : (sums : Sums) → AreAdded number panels displays sums (sums_from number crew_then sums)

  -- the worker of a panel, as its run
  abbrev run_of : (number : ℕ) (before now : PanelData) → IsNewPanel plant lock number before → HasServedPanel plant before now → IsSeatIn past now.seat → PanelRun plant lock past
  run_of number before now new has seat_in =
      let served = has.served (subst (λ (n : ℕ). StandsFor plant n before.session nothing_yet) (sym new.number_is) new.stands) in
      let at_number = subst (λ (n : ℕ). PanelServed plant n plant.server.turns now.done now.session before.seat now.seat before.acceptor now.acceptor (trace_of before.trace) (trace_of now.trace)) new.number_is served in
      record {
        panel = number;
        done = now.done;
        session_then = now.session;
        seat_then = now.seat;
        acceptor = before.acceptor;
        acceptor_then = now.acceptor;
        trace = trace_of before.trace;
        trace_then = trace_of now.trace;
        new = new.fresh;
        most = new.most;
        own = new.own;
        kept = has.kept;
        named = has.named ∙ has.number ∙ new.number_is;
        served = subst (λ (seat : PlantSeat). PanelServed plant number plant.server.turns now.done now.session seat now.seat before.acceptor now.acceptor (trace_of before.trace) (trace_of now.trace)) new.seat_is at_number;
        seat_in = seat_in;
      }

  -- one worker of a panel more
  runs_more : (number : ℕ) (before now : PanelData) (crew crew_then : List (WorkerData P)) → IsNewPanel plant lock number before → HasServedPanel plant before now → IsSeatIn past now.seat
      → CrewRuns (number + 1) crew crew_then → CrewRuns number (of_panel before ∷ crew) (of_panel now ∷ crew_then)
  runs_more number before now crew crew_then new has seat_in rest =
      let Run = PanelRun plant lock past in
      let run : Run = run_of number before now new has seat_in in
      let ends = map (λ (run : Run). run.acceptor_then) rest.panels in
      let close = faulty_back (now.acceptor ∷ ends) in
      record {
        panels = run ∷ rest.panels;
        displays = rest.displays;
        count = omega (arith, rest.count);
        numbered = numbered_more number run rest.panels refl rest.numbered;
        were = ap (λ (later : List TraceData). trace_of before.trace ∷ later) rest.were;
        are = ap (λ (later : List TraceData). trace_of now.trace ∷ later) rest.are;
        names = ap (λ (name : Option (List ℕ)). name ∷ map (λ (worker : WorkerData P). (trace_sink_of worker).name) crew_then) has.name
            ∙ ap (λ (later : List (Option (List ℕ))). before.trace.name ∷ later) rest.names;
        net_is = λ net.
            let fewer : net.acceptors.out - 1 - length rest.panels ≡ net.acceptors.out - suc (length rest.panels) = omega arith in
            rest.net_is (with_closed now.acceptor net)
            ∙ ap (λ (back : Option (List AcceptorEnd)). record net {
              acceptors = record { out = net.acceptors.out - 1 - length rest.panels; back = back };
              ports = returned (port_end rest.displays.opening rest.displays.port_then) net.ports;
              close_faults = count_after (is_faulty (faults rest.displays.port_then)) (close net.close_faults);
            }) (back_both (now.acceptor ∷ []) ends net.acceptors.back)
            ∙ ap (λ (n : ℕ). record net {
              acceptors = record (all_returned (now.acceptor ∷ ends) net.acceptors) { out = n };
              ports = returned (port_end rest.displays.opening rest.displays.port_then) net.ports;
              close_faults = count_after (is_faulty (faults rest.displays.port_then)) (close net.close_faults);
            }) fewer;
        added = λ sums. added_first number run rest.panels rest.displays sums (sums_from (number + 1) crew_then (with_panel number now.done sums)) (rest.added (with_panel number now.done sums));
      }

  -- the worker of the displays alone
  runs_last : (number : ℕ) (before now : DisplayData P) → IsNewDriver WasSent faults plant lock number before → HasDriven WasSent faults plant before now → IsSeatIn past now.seat
      → CrewRuns number (of_displays before ∷ []) (of_displays now ∷ [])
  runs_last number before now new has seat_in =
      let seat_at : ℕ → PlantSeat = λ n. new_seat lock.id (start plant) n in
      let displays : DisplayRun WasSent faults plant lock past = record {
        end = now.end;
        seat_then = now.seat;
        opening = now.port.opening;
        port = before.port.port;
        port_then = now.port.port;
        trace = trace_of before.trace;
        trace_then = trace_of now.trace;
        new = new.fresh;
        own = has.kept ∙ new.own;
        driven = subst (λ (seat : PlantSeat). Driven WasSent faults plant now.end seat now.seat before.port.port now.port.port (trace_of before.trace) (trace_of now.trace)) (new.seat_is ∙ ap seat_at new.last) has.driven;
        seat_in = seat_in;
      } in
      record {
        panels = [];
        displays = displays;
        count = omega (arith, new.last);
        numbered = λ k run at. absurd cc;
        were = refl;
        are = refl;
        names = ap (λ (name : Option (List ℕ)). name ∷ []) has.name;
        net_is = λ net. ap (λ (acceptors : Custody AcceptorEnd). record (with_closed_port faults now.port net) { acceptors = acceptors }) (none_back net.acceptors);
        added = λ sums. added_last number displays sums;
      }

  -- all workers
  pub runs_of : (number : ℕ) (crew crew_then : List (WorkerData P)) → IsNewCrew WasSent faults plant lock number crew → AllZip (HasDoneWork WasSent faults plant) crew crew_then
      → All (IsSeatIn past) (map seat_of crew_then) → CrewRuns number crew crew_then
  runs_of number [] crew_then new worked seats = absurd new
  runs_of number (of_panel before ∷ crew) [] new worked seats = absurd worked
  runs_of number (of_panel before ∷ crew) (of_displays now ∷ crew_then) new worked seats = absurd worked.0
  runs_of number (of_panel before ∷ crew) (of_panel now ∷ crew_then) new worked seats =
      runs_more number before now crew crew_then new.0 worked.0 (All-head (IsSeatIn past) now.seat (map seat_of crew_then) seats)
      (runs_of (number + 1) crew crew_then new.1 worked.1 (All-tail (IsSeatIn past) now.seat (map seat_of crew_then) seats))
  runs_of number (of_displays before ∷ other ∷ crew) crew_then new worked seats = absurd new
  runs_of number (of_displays before ∷ []) [] new worked seats = absurd worked
  runs_of number (of_displays before ∷ []) (of_panel now ∷ crew_then) new worked seats = absurd worked.0
  runs_of number (of_displays before ∷ []) (of_displays now ∷ other ∷ crew_then) new worked seats = absurd worked.1
  runs_of number (of_displays before ∷ []) (of_displays now ∷ []) new worked seats =
      runs_last number before now new worked.0 (All-head (IsSeatIn past) now.seat [] seats)

  -- So the plant was served.
  abbrev pub plant_served : (crew crew_then : List (WorkerData P)) (net net_then : NetData P) (traces traces_then : List TraceData) → CrewRuns 0 crew crew_then
      → IsLegal step Takes (start plant) past → length past ≤ 2 ^ 62 → All (λ entry. entry.seat < length plant.panels + 1) past
      → net_then ≡ after_all faults crew_then (with_port plant.server (opened_acceptors plant (length plant.panels) net))
      → traces ≡ map (λ worker. trace_of (trace_sink_of worker)) crew → traces_then ≡ map (λ worker. trace_of (trace_sink_of worker)) crew_then
      → PlantServed WasSent faults plant past net net_then traces traces_then
  plant_served crew crew_then net net_then traces traces_then runs legal few by_seats net_is traces_were traces_are =
      let Run = PanelRun plant lock past in
      let all = acceptor_openings plant.server 0 plant.panels in
      let opened = with_port plant.server (opened_acceptors plant (length plant.panels) net) in
      let is = net_is ∙ runs.net_is opened in
      let long : length all ≡ length plant.panels = openings_count plant.server 0 plant.panels in
      let whole : take (length plant.panels) all ≡ all = take_all (length plant.panels) all (omega (arith, long)) in
      let out : net.acceptors.out + length plant.panels - length runs.panels ≡ net.acceptors.out = omega (arith, runs.count) in
      let one : net.ports.out + 1 - 1 ≡ net.ports.out = omega arith in
      record {
        lock = lock;
        panels = runs.panels;
        displays = runs.displays;
        counted = omega (arith, runs.count);
        numbered = λ k run at. omega (arith, runs.numbered k run at);
        legal = legal;
        few = few;
        by_seats = by_seats;
        openings = ap (λ (x : NetData P). x.openings) is
            ∙ ap (λ (x : List Opening). opened_all (Display plant.server.display ∷ []) (opened_all x net.openings)) whole
            ∙ opened_both all (Display plant.server.display ∷ []) net.openings;
        acceptors = ap (λ (x : NetData P). x.acceptors) is
            ∙ ap (λ (n : ℕ). record (all_returned (map (λ (run : Run). run.acceptor_then) runs.panels) net.acceptors) { out = n }) out;
        port = ap (λ (x : NetData P). x.ports) is
            ∙ ap (λ (n : ℕ). record (all_returned (port_end runs.displays.opening runs.displays.port_then ∷ []) net.ports) { out = n }) one;
        open_count = ap (λ (x : NetData P). x.open_faults) is;
        close_count = ap (λ (x : NetData P). x.close_faults) is;
        traces_were = traces_were ∙ runs.were;
        traces_are = traces_are ∙ runs.are;
      }

  -- And so it is told.
  told_so : (net net_then : NetData P) (traces traces_then : List TraceData) (sums : Sums) (entries : ℕ) (served : PlantServed WasSent faults plant past net net_then traces traces_then)
      → AreAdded 0 served.panels served.displays no_sums sums → entries ≡ length past → (unborn : Bool) → ends_unborn served.displays.end ≡ unborn
      → ServedSo WasSent faults plant net net_then traces traces_then (if unborn then Err failures.NoMemory else Ok (record {
        sessions = sums.sessions;
        entries = entries;
        limits = sums.limits;
        net_faults = sums.net_faults + lost_at sums.end;
        trace_faults = sums.trace_faults;
        failed_trace = sums.failed_trace;
        past = past;
      }))
  told_so net net_then traces traces_then sums entries served added is true unborn = inr (record { past = past; served = served; undriven = unborn })
  told_so net net_then traces traces_then sums entries served added is false born =
      let count = counted served.panels served.displays sums entries added is in
      record {
        served = served;
        driven = born;
        counted = count;
        cause = λ some. subst (λ (n : ℕ). Rose net.close_faults n) (sym served.close_count) (cause_of served.panels served.displays (sums.net_faults + lost_at sums.end) net.close_faults count.net_faults some);
      }

  pub served_so : (crew crew_then : List (WorkerData P)) (net net_then : NetData P) (traces traces_then : List TraceData) (sums : Sums) (entries : ℕ) → CrewRuns 0 crew crew_then
      → IsLegal step Takes (start plant) past → length past ≤ 2 ^ 62 → All (λ entry. entry.seat < length plant.panels + 1) past
      → net_then ≡ after_all faults crew_then (with_port plant.server (opened_acceptors plant (length plant.panels) net))
      → traces ≡ map (λ worker. trace_of (trace_sink_of worker)) crew → traces_then ≡ map (λ worker. trace_of (trace_sink_of worker)) crew_then
      → sums ≡ sums_from 0 crew_then no_sums → entries ≡ length past
      → ServedSo WasSent faults plant net net_then traces traces_then (sums_answer sums entries past)
  served_so crew crew_then net net_then traces traces_then sums entries runs legal few by_seats net_is traces_were traces_are sums_are entries_are =
      let served : PlantServed WasSent faults plant past net net_then traces traces_then = plant_served crew crew_then net net_then traces traces_then runs legal few by_seats net_is traces_were traces_are in
      let added : AreAdded 0 runs.panels runs.displays no_sums sums = subst (λ (s : Sums). AreAdded 0 runs.panels runs.displays no_sums s) (sym sums_are) (runs.added no_sums) in
      told_so net net_then traces traces_then sums entries served added entries_are (ends_unborn sums.end) (sym (ap ends_unborn added.end))
