use Rattle.std.proofs.Common.{◌+◌, drop, sym, ap, ◌∙◌}
use Rattle.number_tables.specs.Table.{put}
use Rattle.crosspoint_state.specs.Applied.{put_all}
use Rattle.tie_pools.proofs.EachLemmas.{next_change}
use Rattle.tie_pools.proofs.commit.put_all.Goals as goal

pub loop-change-preserved : goal.loop-change-preserved
loop-change-preserved c =
    let change = c.change-item.result in
    let points = c.loop-change.points.entries in
    let rest = drop (c.loop-change.change-index + 1) c.args.changes.now in
    let next = next_change c.args.changes.now c.loop-change.change-index change c.loop-change-test.true c.change-item.is in
    record {
      made = ap (λ points. put_all points rest) (c.set.ensures.entries ∙ ap (put points change.dest) c.untied.ensures)
          ∙ sym (ap (put_all points) next)
          ∙ c.loop-change.invariant.made;
      kept = c.set.ensures.kept;
    }
