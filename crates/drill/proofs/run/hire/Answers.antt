use Rattle.std.proofs.Common.{◌≡◌, ◌<◌, List, [], ◌∷◌, ◌++◌, length, sym, ap, ◌∙◌, subst, arith}
use Rattle.std.proofs.lemmas.List.{length_push}
use Rattle.panel_session.specs.Served.{PlantSeat}
use Rattle.drill.specs.declared.worker.Worker.{Worker}
use Rattle.drill.specs.WorkerInside.{EachWorker, IsReady, seats_of}
use Rattle.drill.proofs.HireLemmas.{ready_more, shared_more}
use Rattle.drill.proofs.run.hire.Goals as goal

pub push_reserved-requires : goal.push_reserved-requires
push_reserved-requires c = omega (arith, c.loop-panel.invariant.counted, c.loop-panel.invariant.room, c.loop-panel-test.true)

pub loop-panel-preserved : goal.loop-panel-preserved
loop-panel-preserved c =
    let old : List PlantSeat = c.loop-panel.seats.items in
    let some : 0 < length old = omega (arith, c.loop-panel.invariant.left, c.loop-panel-test.true) in
    let more : c.push_reserved.new.self.items ≡ c.loop-panel.workers.items ++ c.in_ok-worker.worker ∷ [] = c.push_reserved.ensures.items in
    let Ready : List Worker → Type 0 = λ workers. EachWorker (IsReady c.args.load.now) workers in
    record {
      left = omega (arith, c.loop-panel.invariant.left, c.remove-seat.ensures.len);
      counted = omega (arith, ap (length {A = Worker}) more, length_push c.loop-panel.workers.items c.in_ok-worker.worker, c.loop-panel.invariant.counted);
      shared = ap (λ (workers : List Worker). seats_of workers ++ c.remove-seat.new.self.items) more
          ∙ ap (λ (seats : List PlantSeat). seats_of (c.loop-panel.workers.items ++ c.in_ok-worker.worker ∷ []) ++ seats) c.remove-seat.ensures.items
          ∙ shared_more c.loop-panel.workers.items c.in_ok-worker.worker old c.args.seats.items c.remove-seat.result c.loop-panel.invariant.shared some c.remove-seat.ensures.value c.in_ok-worker.ensures.seat;
      room = c.push_reserved.ensures.capacity ∙ c.loop-panel.invariant.room;
      ready = subst Ready (sym more) (ready_more c.args.load.now c.loop-panel.panel c.loop-panel.workers.items c.in_ok-worker.worker c.loop-panel.invariant.counted c.loop-panel.invariant.ready c.in_ok-worker.ensures.ready);
    }
