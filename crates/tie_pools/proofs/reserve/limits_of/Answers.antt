use Rattle.std.proofs.Common.{◌<◌, ◌≤◌, length, subst, arith, length-set}
use Rattle.std.proofs.lemmas.List.{take_all}
use Rattle.tie_pools.specs.ReserveInside.{AreLimited}
use Rattle.tie_pools.proofs.OverLimitLemmas.{limits_same, limits_set}
use Rattle.tie_pools.proofs.reserve.limits_of.Goals as goal
use Rattle.tie_pools.proofs.reserve.limits_of.Goals.{in-Some, in_default}

pub loop-change-init : goal.loop-change-init
loop-change-init c = (omega arith, λ k d inside. absurd (omega arith))

pub bounds-limits-get : goal.bounds-limits-get
bounds-limits-get c =
    let few : length c.args.plant.now.pools ≤ 256 = c.requires.plant.linked.pools.0.1 in
    omega (arith, c.in-Some.ensures.within.pool, c.get.ensures)

pub loop-change-preserved : goal.loop-change-preserved
loop-change-preserved c =
    let few : length c.args.plant.now.pools ≤ 256 = c.requires.plant.linked.pools.0.1 in
    elim c.match-route_of.branch [
      | in-Some w ↦
          let below : w.in-Some.route.pool < length c.loop-change.limits = omega (arith, few, w.in-Some.ensures.within.pool, c.loop-change.invariant.0) in
          rw (w.limits-is, w.get.ensures) (
            rw length-set c.loop-change.invariant.0,
            limits_set c.args.plant.now c.args.demand.now c.loop-change.limits c.args.changes.now c.loop-change.change-index c.change-item.result w.in-Some.route w.limit_by.result
                c.change-item.is c.loop-change-test.true w.in-Some.ensures.route w.limit_by.ensures below c.loop-change.invariant.1,
          )
      | in_default w ↦
          rw w.limits-is (
            c.loop-change.invariant.0,
            limits_same c.args.plant.now c.args.demand.now c.loop-change.limits c.args.changes.now c.loop-change.change-index c.change-item.result
                c.change-item.is c.loop-change-test.true w.in_default.ensures.route c.loop-change.invariant.1,
          )
    ]

pub returns : goal.returns
returns c =
    subst (AreLimited c.args.plant.now c.args.demand.now c.loop-change.limits) (take_all c.loop-change.change-index c.args.changes.now c.loop-change-test.false) c.loop-change.invariant.1
