use Rattle.std.proofs.Common.{◌+◌, ◌<◌, drop, ap, sym, subst, ◌∙◌}
use Rattle.plant_config.specs.Plant.{destinations_of}
use Rattle.plant_config.specs.declared.records.Change.{Change}
use Rattle.tie_pools.specs.CommitInside.{released_each}
use Rattle.tie_pools.proofs.EachLemmas.{next_change}
use Rattle.tie_pools.proofs.ties.Ties.release_all.Goals as goal

pub release-requires-clause-dest : goal.release-requires-clause-dest
release-requires-clause-dest c =
    subst (λ (change : Change). change.dest < destinations_of c.args.plant.now) (sym c.index-changes-index.is)
    (c.requires.dests c.loop-index.index c.index-changes-index.result c.loop-index-test.true)

pub loop-index-preserved : goal.loop-index-preserved
loop-index-preserved c =
    let rest = drop (c.loop-index.index + 1) c.args.changes.now in
    let next = next_change c.args.changes.now c.loop-index.index c.index-changes-index.result c.loop-index-test.true c.index-changes-index.is in
    record {
      points = ap (λ points. released_each points rest) c.release.ensures.points
          ∙ sym (ap (released_each c.loop-index.points.entries) next)
          ∙ c.loop-index.invariant.points;
      kept = c.release.ensures.kept;
      counts = c.release.ensures.counts;
      valid = c.release.ensures.valid;
    }
