use Rattle.std.proofs.Common.{◌≡◌, ◌^◌, List, ◌++◌, length, take, drop, sym, ap, ◌∙◌, subst, arith}
use Rattle.std.proofs.lemmas.List.{length-map, take_at}
use Rattle.plant_config.specs.Plant.{PlantData}
use Rattle.plant_core.specs.State.{start}
use Rattle.panel_session.specs.Served.{PlantSeat}
use Rattle.drill.specs.declared.worker.Worker.{Worker}
use Rattle.drill.specs.WorkerInside.{EachWorker, MayWork, WasServed}
use Rattle.drill.proofs.HireLemmas.{all_may}
use Rattle.drill.proofs.RoomLemmas.{drill_turns}
use Rattle.drill.proofs.run.work_all.Goals as goal

pub work_each-requires-clause-may : goal.work_each-requires-clause-may
work_each-requires-clause-may g c κs within =
    let workers : List Worker = c.in_ok-workers.workers.items in
    let May : List Worker → Type 0 = λ workers. EachWorker (MayWork c.args.load.now c.in_ok-lock.lock) workers in
    let count : length workers ≡ c.args.load.now.panels =
    sym (length-map workers (λ (worker : Worker). worker.seat)) ∙ ap (length {A = PlantSeat}) c.in_ok-workers.ensures.seats ∙ c.in_ok-lock.ensures.count in
    subst May (sym c.as_mut_slice.ensures.value)
    (all_may c.args.load.now c.in_ok-lock.lock c.in_ok-state.state c.in_ok-lock.seats.items workers (c.in_ok-state.ensures ∙ ap (λ (plant : PlantData). start plant) c.requires.plant) count c.in_ok-lock.ensures.each
    c.in_ok-workers.ensures.seats c.in_ok-workers.ensures.ready)

pub gather-requires-clause-served : goal.gather-requires-clause-served
gather-requires-clause-served g c =
    let worked : List Worker = c.work_each.new.workers in
    let behind : List Worker = drop (length worked) c.in_ok-workers.workers.items in
    let count : length worked ≡ c.in_ok-workers.workers.len = omega (arith, c.work_each.auto.workers, c.as_mut_slice.ensures.len) in
    let all : take c.in_ok-workers.workers.len (worked ++ behind) ≡ worked = take_at worked behind c.in_ok-workers.workers.len count in
    let Served : List Worker → Type 0 = λ workers. EachWorker (WasServed c.args.load.now c.in_ok-lock.lock) workers in
    subst Served (sym all) c.work_each.ensures

pub work_each-requires-clause-enough : goal.work_each-requires-clause-enough
work_each-requires-clause-enough g c κs within =
    let turns : c.args.plant.now.server.turns ≡ 2 ^ 40 = ap (λ (plant : PlantData). plant.server.turns) c.requires.plant ∙ drill_turns c.args.load.now.panels in
    rw c.server.ensures.server (omega (arith, turns))
