use Rattle.std.proofs.Common.{◌≤◌, length, sym, ap, ◌∙◌, arith}
use Rattle.tie_pools.specs.ReserveInside.{lower_of}
use Rattle.tie_pools.proofs.OverLimitLemmas.{over_same, over_next, over_all}
use Rattle.tie_pools.proofs.reserve.lowest_over.Goals as goal
use Rattle.tie_pools.proofs.reserve.lowest_over.Goals.{in-Some, in_default}

pub over_limit-requires : goal.over_limit-requires
over_limit-requires c =
    let few : length c.args.plant.now.pools ≤ 256 = c.requires.plant.linked.pools.0.1 in
    omega (arith, c.in-Some.ensures.within.pool)

pub loop-change-preserved : goal.loop-change-preserved
loop-change-preserved c =
    elim c.match-route_of.branch [
      | in-Some w ↦
          rw w.lowest-is
          (over_next c.args.plant.now c.args.demand.now c.args.limits.now c.args.changes.now c.loop-change.change-index c.change-item.result c.loop-change.lowest w.lower_of-lowest.result w.in-Some.route
          c.change-item.is c.loop-change-test.true w.in-Some.ensures.route (w.lower_of-lowest.ensures ∙ ap (lower_of c.loop-change.lowest) w.over_limit.ensures)
          ∙ c.loop-change.invariant)
      | in_default w ↦
          rw w.lowest-is
          (over_same c.args.plant.now c.args.demand.now c.args.limits.now c.args.changes.now c.loop-change.change-index c.change-item.result c.loop-change.lowest
          c.change-item.is c.loop-change-test.true w.in_default.ensures.route
          ∙ c.loop-change.invariant)
    ]

pub returns : goal.returns
returns c =
    sym (over_all c.args.plant.now c.args.demand.now c.args.limits.now c.args.changes.now c.loop-change.change-index c.loop-change.lowest c.loop-change-test.false)
    ∙ c.loop-change.invariant
