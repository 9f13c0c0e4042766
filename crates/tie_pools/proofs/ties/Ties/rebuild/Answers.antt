use Rattle.std.proofs.Common.{◌≡◌, ℕ, subst, arith}
use Rattle.plant_config.specs.Plant.{destinations_of}
use Rattle.tie_pools.specs.Counts.{AreCountsOf}
use Rattle.tie_pools.specs.RebuiltInside.{carried_below}
use Rattle.tie_pools.proofs.RebuiltLemmas.{counted_all}
use Rattle.tie_pools.proofs.ties.Ties.rebuild.Goals as goal

pub returns : goal.returns
returns c =
    let all : c.loop-number.number ≡ destinations_of c.args.plant.now = omega arith in
    counted_all c.args.plant.now c.args.points.now.entries c.loop-number.self
    (subst (λ (count : ℕ). AreCountsOf c.args.plant.now (carried_below c.args.points.now.entries count) c.loop-number.self) all c.loop-number.invariant)
