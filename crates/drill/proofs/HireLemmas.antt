-- One worker more, with the next seat.
use Rattle.std.proofs.Common.{◌≡◌, inl, inr, ℕ, zero, suc, Some, ◌+◌, ◌<◌, List, [], ◌∷◌, ◌++◌, length, slice_index_or, refl, sym, ap, ◌∙◌, subst, arith}
use Rattle.std.specs.Prelude.{remove, slice_get}
use Rattle.std.proofs.lemmas.Bool.{cases_eq}
use Rattle.std.proofs.lemmas.List.{append_assoc, get_or_append_left, get_or_push, length_push, map_push}
use Rattle.history_lock.specs.Locks.{AreNew, LockData, new_seat}
use Rattle.plant_config.specs.DrillPlant.{drill_plant}
use Rattle.plant_core.specs.State.{State, start}
use Rattle.panel_session.specs.Served.{PlantSeat}
use Rattle.drill.specs.declared.worker.Worker.{Worker}
use Rattle.drill.specs.declared.worker.Workload.{Workload}
use Rattle.drill.specs.WorkerInside.{EachWorker, IsReady, MayWork, seats_of}

pub ready_more : (load : Workload) (panel : ℕ) (workers : List Worker) (worker : Worker) → length workers ≡ panel → EachWorker (IsReady load) workers → IsReady load panel worker → EachWorker (IsReady load) (workers ++ worker ∷ [])
ready_more load panel workers worker count ready one at default below =
    let Ready : Worker → Type 0 = IsReady load at in
    elim (cases_eq at (length workers)) [
      | inl same ↦
          let Of : ℕ → Type 0 = λ panel. IsReady load panel worker in
          let here : panel ≡ at = omega arith in
          subst Ready (sym (get_or_push workers worker default at (sym same))) (subst Of here one)
      | inr other ↦
          let within : at < length workers = omega (arith, length_push workers worker) in
          subst Ready (sym (get_or_append_left workers (worker ∷ []) default at within)) (ready at default within)
    ]

-- the first of some seats, and the others
first_is : (seats : List PlantSeat) (seat : PlantSeat) → 0 < length seats → seat ≡ slice_index_or seats 0 seat → seats ≡ seat ∷ remove seats 0
first_is [] seat some is = absurd (omega arith)
first_is (one ∷ seats) seat some is = ap (λ (first : PlantSeat). first ∷ seats) (sym is)

pub shared_more : (workers : List Worker) (worker : Worker) (seats whole : List PlantSeat) (seat : PlantSeat) → seats_of workers ++ seats ≡ whole → 0 < length seats → seat ≡ slice_index_or seats 0 seat → worker.seat ≡ seat
    → seats_of (workers ++ worker ∷ []) ++ remove seats 0 ≡ whole
shared_more workers worker seats whole seat shared some is same =
    ap (λ (front : List PlantSeat). front ++ remove seats 0) (map_push (λ (worker : Worker). worker.seat) workers worker)
    ∙ append_assoc (seats_of workers) (worker.seat ∷ []) (remove seats 0)
    ∙ ap (λ (seat : PlantSeat). seats_of workers ++ seat ∷ remove seats 0) same
    ∙ ap (λ (seats : List PlantSeat). seats_of workers ++ seats) (sym (first_is seats seat some is))
    ∙ shared

-- the seat of a worker, by its place
seat_at : (workers : List Worker) (panel : ℕ) (default : Worker) → panel < length workers → slice_get (seats_of workers) panel ≡ Some (slice_index_or workers panel default).seat
seat_at [] panel default below = absurd (omega arith)
seat_at (worker ∷ workers) zero default below = refl
seat_at (worker ∷ workers) (suc panel) default below = seat_at workers panel default (omega arith)

-- Workers that are ready may work, each with the seat of its panel of a new lock.
pub all_may : (load : Workload) (lock : LockData State) (opening : State) (seats : List PlantSeat) (workers : List Worker) → opening ≡ start (drill_plant load.panels) → length workers ≡ load.panels → AreNew lock.id opening load.panels seats
    → seats_of workers ≡ seats → EachWorker (IsReady load) workers → EachWorker (MayWork load lock) workers
all_may load lock opening seats workers opens count new are ready panel default below =
    let within : panel < load.panels = omega (arith, count) in
    let given : slice_get (seats_of workers) panel ≡ Some (new_seat lock.id opening panel) = ap (λ (seats : List PlantSeat). slice_get seats panel) are ∙ new panel within in
    let here : slice_get (seats_of workers) panel ≡ Some (slice_index_or workers panel default).seat = seat_at workers panel default below in
    let same : (slice_index_or workers panel default).seat ≡ new_seat lock.id opening panel = cc in
    record { ready = ready panel default below; seat = same ∙ ap (λ (opening : State). new_seat lock.id opening panel) opens }
