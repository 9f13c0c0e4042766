-- From what the workers of a plant did and what the closed lock says, how the plant was served.
use Rattle.std.proofs.Common.{◌≡◌, ℕ, ◌+◌, ◌<◌, ◌≤◌, ◌^◌, List, length, map, All, refl, sym, ◌∙◌, subst}
use mathlib.Core.List.{IsPrefix}
use Rattle.std.specs.List.{AllZip}
use Rattle.history_lock.specs.Calls.{HasOwn}
use Rattle.history_lock.specs.Closing.{FullByTicket}
use Rattle.history_lock.specs.History.{IsLegal}
use Rattle.history_lock.specs.Locks.{IsLockOf, LockData}
use Rattle.plant_config.specs.Plant.{PlantData}
use Rattle.plant_core.specs.State.{State, start, Fits as Takes}
use Rattle.plant_core.specs.Step.{step}
use Rattle.panel_session.specs.Entry.{PlantEntry}
use Rattle.panel_session.specs.Served.{PlantSeat}
use Rattle.panel_server.specs.declared.sums.Sums.{Sums}
use Rattle.panel_server.specs.PlantServed.{IsSeatIn, NetData, ServedSo}
use Rattle.panel_server.specs.ServeInside.{after_all, no_sums, opened_acceptors, sums_from, sums_answer, with_port}
use Rattle.panel_server.specs.Workers.{HasDoneWork, WorkerData, seat_of, trace_sink_of, trace_of}
use Rattle.panel_server.proofs.CrewLemmas.{IsNewCrew, runs_of, served_so}

-- What a lock says when it is closed with these seats.
pub record IsClosed (lock : LockData State) (seats : List PlantSeat) (entries : ℕ) (past : List PlantEntry) : Type 0 where
  pub legal : IsLegal step Takes lock.first past
  pub entries_are : entries ≡ length past
  pub limit : entries ≤ 2 ^ 62
  pub seen : All (λ seat. IsPrefix seat.seen past) seats
  pub own : All (HasOwn past) seats
  pub by_seats : All (λ entry. entry.seat < lock.seats) past
  pub ticket_full : All (FullByTicket entries) seats

pub seats_in : (lock : LockData State) (seats : List PlantSeat) (entries : ℕ) (past : List PlantEntry) → IsClosed lock seats entries past → All (IsSeatIn past) seats
seats_in lock seats entries past closed = λ k other below. record {
  seen = closed.seen k other below;
  own = closed.own k other below;
  full = λ is. sym closed.entries_are ∙ closed.ticket_full k other below is;
}

module _ {P : Type 0} (WasSent : P → List (List ℕ) → Type 0) (faults : P → ℕ) (plant : PlantData) (lock : LockData State) where
  -- The workers began anew, each did its work, the lock was closed with their seats, and what they had was given back.
  pub crew_served : (workers workers_then : List (WorkerData P)) (net net_then : NetData P) (sums : Sums) (entries : ℕ) (past : List PlantEntry) → IsNewCrew WasSent faults plant lock 0 workers
      → AllZip (HasDoneWork WasSent faults plant) workers workers_then → IsLockOf (start plant) (length plant.panels + 1) lock → IsClosed lock (map seat_of workers_then) entries past
      → net_then ≡ after_all faults workers_then (with_port plant.server (opened_acceptors plant (length plant.panels) net)) → sums ≡ sums_from 0 workers_then no_sums
      → ServedSo WasSent faults plant net net_then (map (λ worker. trace_of (trace_sink_of worker)) workers) (map (λ worker. trace_of (trace_sink_of worker)) workers_then) (sums_answer sums entries past)
  crew_served workers workers_then net net_then sums entries past new worked lock_is closed net_is sums_are =
      let legal = subst (λ (first : State). IsLegal step Takes first past) lock_is.0 closed.legal in
      let few : length past ≤ 2 ^ 62 = subst (λ (n : ℕ). n ≤ 2 ^ 62) closed.entries_are closed.limit in
      let by_seats = subst (λ (n : ℕ). All (λ (entry : PlantEntry). entry.seat < n) past) lock_is.1 closed.by_seats in
      served_so WasSent faults plant lock past workers workers_then net net_then (map (λ (worker : WorkerData P). trace_of (trace_sink_of worker)) workers) (map (λ (worker : WorkerData P). trace_of (trace_sink_of worker)) workers_then) sums entries
      (runs_of WasSent faults plant lock past 0 workers workers_then new worked (seats_in lock (map seat_of workers_then) entries past closed))
      legal few by_seats net_is refl refl sums_are closed.entries_are
