-- What bounds the counts of a plant's workers, and what they may give back.
use Rattle.std.proofs.Common.{◌≡◌, ℕ, suc, ◌+◌, ◌<◌, ◌≤◌, ◌==◌, ◌^◌, Bool, true, false, cond, List, [], ◌∷◌, length, map, filter, All, sym, ap, ◌∙◌, subst, arith}
use mathlib.Core.List.{IsPrefix}
use Rattle.std.specs.List.{AllZip}
use Rattle.std.proofs.lemmas.List.{length-append, length-map}
use Rattle.std.proofs.lemmas.List.Elements.{All-nil, All-cons}
use Rattle.history_lock.specs.History.{entries_of}
use Rattle.history_lock.specs.Locks.{LockData}
use Rattle.plant_config.specs.IsPlant.{IsPlant}
use Rattle.plant_config.specs.Plant.{PlantData}
use Rattle.plant_core.specs.State.{State}
use Rattle.panel_session.specs.Entry.{PlantEntry}
use Rattle.panel_session.specs.Served.{PlantSeat, TraceData}
use Rattle.panel_session.specs.Session.{StandsFor}
use Rattle.panel_session.specs.SoFar.{nothing_yet}
use Rattle.panel_server.specs.declared.displays.DriverEnd.{DriverEnd}
use Rattle.panel_server.specs.declared.displays.DriverEnd.TheVariants.{Finished, TraceFault, Full, NoMemory}
use Rattle.panel_server.specs.declared.sums.Sums.{Sums}
use Rattle.panel_server.specs.Driven.{Driven, EndsSo, LampSend, shows_lamps, was_lost, whole_traced}
use Rattle.panel_server.specs.PanelServed.{LinkServed, is_limit, is_link_fault, that_ended}
use Rattle.panel_server.specs.PlantServed.{NetData, lost_at}
use Rattle.panel_server.specs.ServeInside.{AreFew, CountsFew, MayGiveAll, with_closed}
use Rattle.panel_server.specs.Workers.{HasServedPanel, HasDoneWork, WorkerData, of_displays, of_panel}
use Rattle.panel_server.proofs.CrewLemmas.{IsNewCrew, IsNewPanel}

filter_fewer : {X : Type 0} (test : X → Bool) (all : List X) → length (filter test all) ≤ length all
filter_fewer test [] = omega arith
filter_fewer test (one ∷ later) = go (test one) (filter_fewer test later)
  where
    go : (so : Bool) → length (filter test later) ≤ length later → length (cond so (one ∷ filter test later) (filter test later)) ≤ suc (length later)
    go true fewer = omega (arith, fewer)
    go false fewer = omega (arith, fewer)

-- what the worker of the displays lost are sends of own entries
lost_of : (end : DriverEnd) (plant : PlantData) (new own : List PlantEntry) (sends : List LampSend) → EndsSo end plant new own sends
    → map (λ (send : LampSend). send.entry) sends ≡ filter shows_lamps (whole_traced end own) → length own ≤ 2 ^ 62 → lost_at end ≤ 2 ^ 62
lost_of (Finished sent failed) plant new own sends ends sent_are few =
    let same : length (map (λ (send : LampSend). send.entry) sends) ≡ length sends = length-map sends (λ (send : LampSend). send.entry) in
    let long : length (map (λ (send : LampSend). send.entry) sends) ≡ length (filter shows_lamps own) = ap (λ (all : List PlantEntry). length all) sent_are in
    let shown : length (filter shows_lamps own) ≤ length own = filter_fewer shows_lamps own in
    let lost : length (filter was_lost sends) ≤ length sends = filter_fewer was_lost sends in
    omega (arith, ends.2, same, long, shown, lost, few)
lost_of TraceFault plant new own sends ends sent_are few = omega arith
lost_of Full plant new own sends ends sent_are few = omega arith
lost_of NoMemory plant new own sends ends sent_are few = omega arith

pub lost_few : {P : Type 0} (WasSent : P → List (List ℕ) → Type 0) (faults : P → ℕ) (plant : PlantData) (end : DriverEnd) (seat seat_then : PlantSeat) (port port_then : P) (trace trace_then : TraceData) (past : List PlantEntry)
    → Driven WasSent faults plant end seat seat_then port port_then trace trace_then → IsPrefix seat_then.seen past → length past ≤ 2 ^ 62 → lost_at end ≤ 2 ^ 62
lost_few WasSent faults plant end seat seat_then port port_then trace trace_then past driven front few =
    let own = entries_of seat.number driven.new in
    let fewer : length own ≤ length driven.new = filter_fewer (λ (entry : PlantEntry). entry.seat == seat.number) driven.new in
    let seen : length seat_then.seen ≡ length seat.seen + length driven.new = ap (λ (all : List PlantEntry). length all) driven.seen ∙ length-append seat.seen driven.new in
    let longer : length seat_then.seen + length front.0 ≡ length past = sym (length-append seat_then.seen front.0) ∙ ap (λ (all : List PlantEntry). length all) front.1 in
    lost_of end plant driven.new own driven.sends driven.ends driven.sent (omega (arith, fewer, seen, longer, few))

-- sums of few workers are few of more
pub few_of_more : (place more : ℕ) (sums : Sums) → place ≤ more → AreFew place sums → AreFew more sums
few_of_more place more sums fewer few = record {
  sessions = omega (arith, few.sessions, fewer);
  limits = omega (arith, few.limits, fewer);
  net_faults = omega (arith, few.net_faults, fewer);
  trace_faults = omega (arith, few.trace_faults, fewer);
}

module _ {P : Type 0} (WasSent : P → List (List ℕ) → Type 0) (faults : P → ℕ) (plant : PlantData) (lock : LockData State) where
  -- no number is past that of the displays
  crew_below : (number : ℕ) (workers : List (WorkerData P)) → IsNewCrew WasSent faults plant lock number workers → number ≤ length plant.panels
  crew_below number [] new = absurd new
  crew_below number (of_panel panel ∷ later) new = omega (arith, crew_below (number + 1) later new.1)
  crew_below number (of_displays displays ∷ []) new = omega (arith, new.last)
  crew_below number (of_displays displays ∷ other ∷ later) new = absurd new

  -- as many acceptors are out as panels, and a port
  pub may_give : (number : ℕ) (workers workers_then : List (WorkerData P)) → IsNewCrew WasSent faults plant lock number workers → AllZip (HasDoneWork WasSent faults plant) workers workers_then
      → (net : NetData P) → length plant.panels ≤ number + net.acceptors.out → 0 < net.ports.out → MayGiveAll faults workers_then net
  may_give number [] workers_then new worked net out port = absurd new
  may_give number (of_panel before ∷ workers) [] new worked net out port = absurd worked
  may_give number (of_panel before ∷ workers) (of_displays now ∷ workers_then) new worked net out port = absurd worked.0
  may_give number (of_panel before ∷ workers) (of_panel now ∷ workers_then) new worked net out port =
      let below : number + 1 ≤ length plant.panels = crew_below (number + 1) workers new.1 in
      (omega (arith, below, out), may_give (number + 1) workers workers_then new.1 worked.1 (with_closed now.acceptor net) (omega (arith, below, out)) port)
  may_give number (of_displays before ∷ other ∷ workers) workers_then new worked net out port = absurd new
  may_give number (of_displays before ∷ []) [] new worked net out port = absurd worked
  may_give number (of_displays before ∷ []) (of_panel now ∷ workers_then) new worked net out port = absurd worked.0
  may_give number (of_displays before ∷ []) (of_displays now ∷ other ∷ workers_then) new worked net out port = absurd worked.1
  may_give number (of_displays before ∷ []) (of_displays now ∷ []) new worked net out port = (port, tt)

  -- a panel has no more sessions than its plant says
  pub all_few : IsPlant plant → (number : ℕ) (workers workers_then : List (WorkerData P)) → IsNewCrew WasSent faults plant lock number workers → AllZip (HasDoneWork WasSent faults plant) workers workers_then
      → All CountsFew workers_then
  all_few is_plant number [] workers_then new worked = absurd new
  all_few is_plant number (of_panel before ∷ workers) [] new worked = absurd worked
  all_few is_plant number (of_panel before ∷ workers) (of_displays now ∷ workers_then) new worked = absurd worked.0
  all_few is_plant number (of_panel before ∷ workers) (of_panel now ∷ workers_then) new worked =
      let first : IsNewPanel plant lock number before = new.0 in
      let has : HasServedPanel plant before now = worked.0 in
      let served = has.served (subst (λ (n : ℕ). StandsFor plant n before.session nothing_yet) (sym first.number_is) first.stands) in
      let most : plant.server.sessions < 2 ^ 32 = omega (arith, is_plant.server.sessions.1) in
      let by_limit : length (that_ended is_limit served.links) ≤ length served.links = filter_fewer (λ (one : LinkServed plant before.number plant.server.turns). is_limit one.end) served.links in
      let by_fault : length (that_ended is_link_fault served.links) ≤ length served.links = filter_fewer (λ (one : LinkServed plant before.number plant.server.turns). is_link_fault one.end) served.links in
      All-cons CountsFew (of_panel now) workers_then (record {
        sessions = omega (arith, served.sessions, served.used, first.most, most);
        limits = omega (arith, served.limits, by_limit, served.used, first.most, most);
        link_faults = omega (arith, served.link_faults, by_fault, served.used, first.most, most);
      }) (all_few is_plant (number + 1) workers workers_then new.1 worked.1)
  all_few is_plant number (of_displays before ∷ other ∷ workers) workers_then new worked = absurd new
  all_few is_plant number (of_displays before ∷ []) [] new worked = absurd worked
  all_few is_plant number (of_displays before ∷ []) (of_panel now ∷ workers_then) new worked = absurd worked.0
  all_few is_plant number (of_displays before ∷ []) (of_displays now ∷ other ∷ workers_then) new worked = absurd worked.1
  all_few is_plant number (of_displays before ∷ []) (of_displays now ∷ []) new worked = All-cons CountsFew (of_displays now) [] tt (All-nil CountsFew)
