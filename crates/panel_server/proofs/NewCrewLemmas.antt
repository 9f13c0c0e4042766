-- The workers of a plant before they begin, and what stays of them.
use Rattle.std.proofs.Common.{◌≡◌, ℕ, suc, ◌+◌, ◌<◌, List, [], ◌∷◌, length, map, slice_get, slice_index_or, Option, Some, IfSome, All, refl, ap, ◌∙◌, subst, arith}
use Rattle.std.specs.List.{AllZip}
use Rattle.std.proofs.lemmas.List.Elements.{All-nil, All-cons, All-head, All-tail}
use Rattle.ctl_io.specs.Custody.{SinkEnd}
use Rattle.ctl_net.specs.Acceptor.{AcceptorData}
use Rattle.ctl_net.specs.Net.{IsFreshPort, PortEnd, TakesAll}
use Rattle.ctl_net.specs.declared.opening.Opening.{Opening}
use Rattle.ctl_net.specs.declared.opening.Opening.TheVariants.{Display}
use Rattle.history_lock.specs.Locks.{AreNew, LockData, new_seat}
use Rattle.plant_config.specs.IsPlant.{IsPlant}
use Rattle.plant_config.specs.Plant.{PlantData}
use Rattle.plant_core.specs.State.{State, start}
use Rattle.panel_session.specs.declared.session.Session.{Session}
use Rattle.panel_session.specs.Served.{PlantSeat}
use Rattle.panel_server.specs.PlantServed.{acceptor_openings}
use Rattle.panel_server.specs.ServeInside.{AreOwn, AreSessions, IsFreshFor, crew, ends_from}
use Rattle.panel_server.specs.Workers.{MayWork, WorkerData, of_displays, of_panel}
use Rattle.panel_server.proofs.CrewLemmas.{IsNewCrew}

-- seats that are new, of which the first has this number
abbrev pub AreNewFrom : PlantData → LockData State → ℕ → List PlantSeat → Type 0
AreNewFrom plant lock number [] = Unit {0}
AreNewFrom plant lock number (seat ∷ later) = (seat ≡ new_seat lock.id (start plant) number) × AreNewFrom plant lock (number + 1) later

pub new_from : (plant : PlantData) (lock : LockData State) (number : ℕ) (seats : List PlantSeat)
    → ((k : ℕ) → k < length seats → slice_get seats k ≡ Some (new_seat lock.id (start plant) (number + k))) → AreNewFrom plant lock number seats
new_from plant lock number [] each = tt
new_from plant lock number (seat ∷ later) each =
    let seat_at : ℕ → PlantSeat = λ n. new_seat lock.id (start plant) n in
    let Is : Option PlantSeat → Type 0 = λ first. IfSome first (λ (one : PlantSeat). seat ≡ one) in
    let first : slice_get (seat ∷ later) 0 ≡ Some (seat_at (number + 0)) = each 0 (omega arith) in
    let same : seat ≡ seat_at (number + 0) = subst Is first refl in
    let here : number + 0 ≡ number = omega arith in (
      same ∙ ap seat_at here,
      new_from plant lock (number + 1) later (λ k below.
          let at : number + suc k ≡ number + 1 + k = omega arith in
          let next : slice_get (seat ∷ later) (suc k) ≡ Some (seat_at (number + suc k)) = each (suc k) (omega (arith, below)) in
          next ∙ ap (λ (n : ℕ). Some (seat_at n)) at),
    )

pub new_all : (plant : PlantData) (lock : LockData State) (count : ℕ) (seats : List PlantSeat) → AreNew lock.id (start plant) count seats → length seats ≡ count → AreNewFrom plant lock 0 seats
new_all plant lock count seats new long =
    let seat_at : ℕ → PlantSeat = λ n. new_seat lock.id (start plant) n in
    new_from plant lock 0 seats (λ k below.
    let at : k ≡ 0 + k = omega arith in
    let here : slice_get seats k ≡ Some (seat_at k) = new k (omega (arith, below, long)) in
    here ∙ ap (λ (n : ℕ). Some (seat_at n)) at)

-- The acceptors, of which the first is of the panel of this number, are the panels' own.
abbrev pub AreOwnFrom : {A : Type 0} → (A → AcceptorData) → PlantData → ℕ → List A → Type 0
AreOwnFrom shows plant number [] = Unit {0}
AreOwnFrom shows plant number (acceptor ∷ later) =
    ((shows acceptor).opening ≡ slice_get (acceptor_openings plant.server 0 plant.panels) number) × AreOwnFrom shows plant (number + 1) later

pub own_from : {A : Type 0} (shows : A → AcceptorData) (plant : PlantData) (number : ℕ) (acceptors : List A)
    → ((k : ℕ) (acceptor : A) → slice_get acceptors k ≡ Some acceptor → (shows acceptor).opening ≡ slice_get (acceptor_openings plant.server 0 plant.panels) (number + k))
    → AreOwnFrom shows plant number acceptors
own_from shows plant number [] each = tt
own_from {A} shows plant number (acceptor ∷ later) each =
    let all : List Opening = acceptor_openings plant.server 0 plant.panels in
    let here : number + 0 ≡ number = omega arith in (
      each 0 acceptor refl ∙ ap (λ (n : ℕ). slice_get all n) here,
      own_from shows plant (number + 1) later (λ k other at.
          let next : number + suc k ≡ number + 1 + k = omega arith in
          each (suc k) other at ∙ ap (λ (n : ℕ). slice_get all n) next),
    )

pub own_all : {A : Type 0} (shows : A → AcceptorData) (plant : PlantData) (acceptors : List A) → AreOwn shows plant acceptors → AreOwnFrom shows plant 0 acceptors
own_all shows plant acceptors own =
    own_from shows plant 0 acceptors (λ k acceptor at.
    let all : List Opening = acceptor_openings plant.server 0 plant.panels in
    let same : k ≡ 0 + k = omega arith in
    own k acceptor at ∙ ap (λ (n : ℕ). slice_get all n) same)

pub ends_long : {A : Type 0} (acceptor_shows : A → AcceptorData) (number : ℕ) (acceptors : List A)
    → length (ends_from acceptor_shows number acceptors) ≡ length acceptors
ends_long acceptor_shows number [] = refl
ends_long acceptor_shows number (acceptor ∷ later) = ap (λ (n : ℕ). suc n) (ends_long acceptor_shows (number + 1) later)

-- what is so of each that is shown
pub all_shown : {W X : Type 0} (shows : W → X) (Is : X → Type 0) (workers : List W) → All Is (map shows workers) → All (λ worker. Is (shows worker)) workers
all_shown shows Is [] all = All-nil (λ worker. Is (shows worker))
all_shown shows Is (worker ∷ later) all =
    All-cons (λ worker. Is (shows worker)) worker later (All-head Is (shows worker) (map shows later) all) (all_shown shows Is later (All-tail Is (shows worker) (map shows later) all))

module _ {A P : Type 0} (acceptor_shows : A → AcceptorData) (WasSent : P → List (List ℕ) → Type 0) (faults : P → ℕ)
    (plant : PlantData) (lock : LockData State) where
  -- what was opened makes a new crew
  pub new_crew : (number : ℕ) (sessions : List Session) (seats : List PlantSeat) (acceptors : List A) (traces : List SinkEnd) (port : PortEnd P)
      → AreSessions plant number sessions → AreNewFrom plant lock number seats → All (IsFreshFor acceptor_shows plant.server) acceptors → AreOwnFrom acceptor_shows plant number acceptors
      → IsFreshPort (WasSent port.port) (faults port.port) → port.opening ≡ Some (Display plant.server.display)
      → length sessions ≡ length acceptors → length seats ≡ length acceptors + 1 → length traces ≡ length acceptors + 1 → number + length acceptors ≡ length plant.panels
      → IsNewCrew WasSent faults plant lock number (crew number sessions seats (ends_from acceptor_shows number acceptors) traces port)
  new_crew number [] [] acceptors traces port stand new fresh own fresh_port own_port a b c d = absurd (omega (arith, b))
  new_crew number [] (seat ∷ seats) [] [] port stand new fresh own fresh_port own_port a b c d = absurd (omega (arith, c))
  new_crew number [] (seat ∷ seats) [] (trace ∷ traces) port stand new fresh own fresh_port own_port a b c d = record { last = omega (arith, d); seat_is = new.0; fresh = fresh_port; own = own_port }
  new_crew number [] (seat ∷ seats) (acceptor ∷ acceptors) traces port stand new fresh own fresh_port own_port a b c d = absurd (omega (arith, a))
  new_crew number (session ∷ sessions) [] acceptors traces port stand new fresh own fresh_port own_port a b c d = absurd (omega (arith, b))
  new_crew number (session ∷ sessions) (seat ∷ seats) [] traces port stand new fresh own fresh_port own_port a b c d = absurd (omega (arith, a))
  new_crew number (session ∷ sessions) (seat ∷ seats) (acceptor ∷ acceptors) [] port stand new fresh own fresh_port own_port a b c d = absurd (omega (arith, c))
  new_crew number (session ∷ sessions) (seat ∷ seats) (acceptor ∷ acceptors) (trace ∷ traces) port stand new fresh own fresh_port own_port a b c d =
      let Fresh : A → Type 0 = IsFreshFor acceptor_shows plant.server in
      let first = All-head Fresh acceptor acceptors fresh in (
        record { number_is = refl; stands = stand.0; seat_is = new.0; fresh = first.fresh; most = first.most; own = own.0 },
        new_crew (number + 1) sessions seats acceptors traces port stand.1 new.1 (All-tail Fresh acceptor acceptors fresh) own.1 fresh_port own_port (omega (arith, a)) (omega (arith, b)) (omega (arith, c)) (omega (arith, d)),
      )

  -- each of a new crew may begin
  pub may_all : (takes : List ℕ → Type 0) → IsPlant plant → TakesAll takes → (number : ℕ) (workers : List (WorkerData P)) → IsNewCrew WasSent faults plant lock number workers → All (MayWork takes plant lock) workers
  may_all takes is_plant all number [] new = absurd new
  may_all takes is_plant all number (of_panel panel ∷ later) new =
      let seat = new.0.seat_is in
      All-cons (MayWork takes plant lock) (of_panel panel) later (record {
        plant = plant;
        panel = number;
        stands = new.0.stands;
        is_plant = is_plant;
        seat_of = ap (λ (one : PlantSeat). one.lock) seat;
        first = ap (λ (one : PlantSeat). one.first) seat;
      }) (may_all takes is_plant all (number + 1) later new.1)
  may_all takes is_plant all number (of_displays displays ∷ []) new =
      let seat = new.seat_is in
      All-cons (MayWork takes plant lock) (of_displays displays) [] (
        record {
          seat_of = ap (λ (one : PlantSeat). one.lock) seat;
          first = ap (λ (one : PlantSeat). one.first) seat;
        },
        all,
      ) (All-nil (MayWork takes plant lock))
  may_all takes is_plant all number (of_displays displays ∷ other ∷ later) new = absurd new

-- what is so of each worker and its end, place by place
pub zip_of : {W P : Type 0} (shows : W → WorkerData P) (Did : WorkerData P → WorkerData P → Type 0) (workers workers_then : List W) → length workers_then ≡ length workers
    → ((k : ℕ) (other : W) → k < length workers → Did (shows (slice_index_or workers k other)) (shows (slice_index_or workers_then k other))) → AllZip Did (map shows workers) (map shows workers_then)
zip_of shows Did [] [] long each = tt
zip_of shows Did [] (other ∷ later) long each = absurd (omega (arith, long))
zip_of shows Did (worker ∷ later) [] long each = absurd (omega (arith, long))
zip_of shows Did (worker ∷ later) (worker_then ∷ later_then) long each =
    (each 0 worker (omega arith), zip_of shows Did later later_then (omega (arith, long)) (λ k other below. each (suc k) other (omega (arith, below))))
