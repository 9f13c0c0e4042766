use Rattle.tie_pools.proofs.PlanLemmas.{not_other, room_back, demand_back, demand_idle_back}
use Rattle.tie_pools.proofs.plan.take_out.Goals as goal
use Rattle.tie_pools.proofs.plan.take_out.Goals.{then-ne, else-ne}

pub shift-requires-clause-room : goal.shift-requires-clause-room
shift-requires-clause-room c =
    room_back c.args.plant.now c.args.points.now.entries c.args.changes.now c.loop-change.change-index c.change-item.result c.source_at-source.result c.loop-change.demand
    c.requires.once c.requires.dests c.loop-change-test.true c.change-item.is c.source_at-source.ensures c.loop-change.invariant c.requires.plant

pub loop-change-preserved : goal.loop-change-preserved
loop-change-preserved c =
    elim c.if-ne.branch [
      | then-ne w ↦
          rw (w.demand-is, w.shift.ensures)
          (demand_back c.args.plant.now c.args.points.now.entries c.args.changes.now c.loop-change.change-index c.change-item.result c.source_at-source.result c.loop-change.demand
          c.requires.once c.requires.dests c.loop-change-test.true c.change-item.is c.source_at-source.ensures c.loop-change.invariant)
      | else-ne w ↦
          rw w.demand-is
          (demand_idle_back c.args.plant.now c.args.points.now.entries c.args.changes.now c.loop-change.change-index c.change-item.result c.source_at-source.result c.loop-change.demand
          c.requires.once c.requires.dests c.loop-change-test.true c.change-item.is c.source_at-source.ensures c.loop-change.invariant (not_other c.source_at-source.result c.change-item.result.source w.if-ne.ensures))
    ]
