use Rattle.std.proofs.Common.{◌≡◌, ◌∙◌, arith, ltb-true, length-set}
use Rattle.tie_pools.proofs.RebuiltLemmas.{freed_next}
use Rattle.tie_pools.proofs.holdings.free_all.Goals as goal

pub loop-number-init : goal.loop-number-init
loop-number-init c = record { pools = c.requires; free = λ pool tie below. absurd (omega (arith, ltb-true pool 0 below)) }

pub loop-number-preserved : goal.loop-number-preserved
loop-number-preserved c = record {
  pools = length-set c.loop-number.free c.loop-number.number c.ties_below.result ∙ c.loop-number.invariant.pools;
  free = freed_next c.args.plant.now c.pools-pools.result.now _ c.loop-number.free c.loop-number.number c.ties_below.result c.pools-pools.ensures.pools c.loop-number.invariant.free c.loop-number.invariant.pools c.loop-number-test.true c.ties_below.ensures;
}
