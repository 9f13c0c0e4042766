-- What the workers of a plant keep: their seats are those of the lock, and their traces stand in the same order.
use Rattle.std.proofs.Common.{◌≡◌, ℕ, zero, suc, ◌+◌, ◌<◌, List, [], ◌∷◌, length, map, slice_index_or, All, refl, sym, ap, ◌∙◌, subst, arith}
use Rattle.std.specs.List.{AllZip}
use Rattle.std.proofs.lemmas.List.Elements.{All-nil, All-cons}
use Rattle.ctl_io.specs.Custody.{SinkEnd}
use Rattle.ctl_net.specs.Net.{AcceptorEnd, PortEnd}
use Rattle.history_lock.specs.Closing.{HasAll, IsOf}
use Rattle.history_lock.specs.Locks.{LockData}
use Rattle.plant_config.specs.Plant.{PlantData}
use Rattle.plant_core.specs.State.{State}
use Rattle.panel_session.specs.declared.session.Session.{Session}
use Rattle.panel_session.specs.Served.{PlantSeat}
use Rattle.panel_session.specs.Session.{StandsFor}
use Rattle.panel_session.specs.SoFar.{nothing_yet}
use Rattle.panel_server.specs.ServeInside.{crew}
use Rattle.panel_server.specs.Workers.{HasDriven, HasServedPanel, HasDoneWork, WorkerData, of_displays, of_panel, seat_of, trace_sink_of}
use Rattle.panel_server.proofs.CrewLemmas.{IsNewCrew, IsNewDriver, IsNewPanel}

-- the seats of a lock, of which the first has this number
abbrev pub AreSeatsFrom : LockData State → ℕ → List PlantSeat → Type 0
AreSeatsFrom lock number [] = Unit {0}
AreSeatsFrom lock number (seat ∷ later) = (seat.lock ≡ lock.id) × (seat.number ≡ number) × AreSeatsFrom lock (number + 1) later

pub all_of : (lock : LockData State) (number : ℕ) (seats : List PlantSeat) → AreSeatsFrom lock number seats → All (IsOf lock.id) seats
all_of lock number [] are = All-nil (IsOf lock.id)
all_of lock number (seat ∷ later) are = All-cons (IsOf lock.id) seat later are.0 (all_of lock (number + 1) later are.2)

pub number_at : (lock : LockData State) (number : ℕ) (seats : List PlantSeat) → AreSeatsFrom lock number seats → (n other : ℕ) → n < length seats
    → slice_index_or (map (λ (seat : PlantSeat). seat.number) seats) n other ≡ number + n
number_at lock number [] are n other below = absurd (omega (arith, below))
number_at lock number (seat ∷ later) are zero other below = omega (arith, are.1)
number_at lock number (seat ∷ later) are (suc n) other below = omega (arith, number_at lock (number + 1) later are.2 n other (omega (arith, below)))

numbers_long : (seats : List PlantSeat) → length (map (λ (seat : PlantSeat). seat.number) seats) ≡ length seats
numbers_long [] = refl
numbers_long (seat ∷ later) = ap (λ (n : ℕ). suc n) (numbers_long later)

pub has_all : (lock : LockData State) (count : ℕ) (seats : List PlantSeat) → AreSeatsFrom lock 0 seats → length seats ≡ count → HasAll count seats
has_all lock count seats are long = λ n below.
    let at : slice_index_or (map (λ (seat : PlantSeat). seat.number) seats) n n ≡ 0 + n = number_at lock 0 seats are n n (omega (arith, below, long)) in
    let same : slice_index_or (map (λ (seat : PlantSeat). seat.number) seats) n n ≡ n = omega (arith, at) in
    (n, omega (arith, below, long, numbers_long seats), same)

module _ {P : Type 0} (WasSent : P → List (List ℕ) → Type 0) (faults : P → ℕ) (plant : PlantData) (lock : LockData State) where
  pub seats_kept : (number : ℕ) (workers workers_then : List (WorkerData P)) → IsNewCrew WasSent faults plant lock number workers → AllZip (HasDoneWork WasSent faults plant) workers workers_then
      → AreSeatsFrom lock number (map seat_of workers_then)
  seats_kept number [] workers_then new worked = absurd new
  seats_kept number (of_panel before ∷ workers) [] new worked = absurd worked
  seats_kept number (of_panel before ∷ workers) (of_displays now ∷ workers_then) new worked = absurd worked.0
  seats_kept number (of_panel before ∷ workers) (of_panel now ∷ workers_then) new worked =
      let first : IsNewPanel plant lock number before = new.0 in
      let has : HasServedPanel plant before now = worked.0 in
      let served = has.served (subst (λ (n : ℕ). StandsFor plant n before.session nothing_yet) (sym first.number_is) first.stands) in (
        ap (λ (one : PlantSeat). one.lock) served.seat_same ∙ ap (λ (one : PlantSeat). one.lock) first.seat_is,
        ap (λ (one : PlantSeat). one.number) served.seat_same ∙ ap (λ (one : PlantSeat). one.number) first.seat_is,
        seats_kept (number + 1) workers workers_then new.1 worked.1,
      )
  seats_kept number (of_displays before ∷ other ∷ workers) workers_then new worked = absurd new
  seats_kept number (of_displays before ∷ []) [] new worked = absurd worked
  seats_kept number (of_displays before ∷ []) (of_panel now ∷ workers_then) new worked = absurd worked.0
  seats_kept number (of_displays before ∷ []) (of_displays now ∷ other ∷ workers_then) new worked = absurd worked.1
  seats_kept number (of_displays before ∷ []) (of_displays now ∷ []) new worked =
      let last : IsNewDriver WasSent faults plant lock number before = new in
      let has : HasDriven WasSent faults plant before now = worked.0 in
      let driven = has.driven in (
        ap (λ (one : PlantSeat). one.lock) driven.seat_same ∙ ap (λ (one : PlantSeat). one.lock) last.seat_is,
        ap (λ (one : PlantSeat). one.number) driven.seat_same ∙ ap (λ (one : PlantSeat). one.number) last.seat_is,
        tt,
      )

  -- one worker for each panel, and one for the displays
  pub crew_long : (number : ℕ) (workers : List (WorkerData P)) → IsNewCrew WasSent faults plant lock number workers → number + length workers ≡ length plant.panels + 1
  crew_long number [] new = absurd new
  crew_long number (of_panel panel ∷ later) new = omega (arith, crew_long (number + 1) later new.1)
  crew_long number (of_displays displays ∷ []) new = omega (arith, new.last)
  crew_long number (of_displays displays ∷ other ∷ later) new = absurd new

-- their traces
pub crew_sinks : {P : Type 0} (number : ℕ) (sessions : List Session) (seats : List PlantSeat) (acceptors : List AcceptorEnd) (traces : List SinkEnd) (port : PortEnd P)
    → length sessions ≡ length acceptors → length seats ≡ length acceptors + 1 → length traces ≡ length acceptors + 1
    → map trace_sink_of (crew number sessions seats acceptors traces port) ≡ traces
crew_sinks number [] [] acceptors traces port a b c = absurd (omega (arith, b))
crew_sinks number [] (seat ∷ seats) [] [] port a b c = absurd (omega (arith, c))
crew_sinks number [] (seat ∷ seats) [] (trace ∷ []) port a b c = refl
crew_sinks number [] (seat ∷ seats) [] (trace ∷ other ∷ traces) port a b c = absurd (omega (arith, c))
crew_sinks number [] (seat ∷ seats) (acceptor ∷ acceptors) traces port a b c = absurd (omega (arith, a))
crew_sinks number (session ∷ sessions) [] acceptors traces port a b c = absurd (omega (arith, b))
crew_sinks number (session ∷ sessions) (seat ∷ seats) [] traces port a b c = absurd (omega (arith, a))
crew_sinks number (session ∷ sessions) (seat ∷ seats) (acceptor ∷ acceptors) [] port a b c = absurd (omega (arith, c))
crew_sinks number (session ∷ sessions) (seat ∷ seats) (acceptor ∷ acceptors) (trace ∷ traces) port a b c =
    ap (λ (later : List SinkEnd). trace ∷ later) (crew_sinks (number + 1) sessions seats acceptors traces port (omega (arith, a)) (omega (arith, b)) (omega (arith, c)))
