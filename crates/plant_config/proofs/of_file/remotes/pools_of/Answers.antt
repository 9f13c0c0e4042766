use Rattle.std.proofs.Common.{get_or, take, ap, sym, ◌∙◌}
use Rattle.plant_file.specs.declared.entries.PoolEntry.{PoolEntry}
use Rattle.plant_config.specs.OfFileInside.{added, way_of, pool_among}
use Rattle.plant_config.proofs.OfFileLemmas.{pool_among-more}
use Rattle.plant_config.proofs.of_file.remotes.pools_of.Goals as goal

pub loop-number-preserved : goal.loop-number-preserved
loop-number-preserved c = λ at.
    let none : PoolEntry = record { from = 0; to = 0; level = 0; ties = 0; reserve = 0 } in
    let pool = get_or c.args.pools.now c.loop-number.number none in
    let before = pool_among (take c.loop-number.number c.args.pools.now) at in
    c.in_ok-add_pool.ensures at ∙ ap (λ first. added first (way_of pool) c.of.result at) (c.loop-number.invariant at)
    ∙ ap (λ number. added before (way_of pool) number at) c.of.ensures
    ∙ sym (pool_among-more c.args.pools.now c.loop-number.number none at c.loop-number-test.true)
