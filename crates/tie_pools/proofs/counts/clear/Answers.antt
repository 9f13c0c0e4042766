use Rattle.std.proofs.Common.{refl, ◌∙◌}
use Rattle.tie_pools.proofs.RebuiltLemmas.{cleared_none, cleared_more}
use Rattle.tie_pools.proofs.counts.clear.Goals as goal

pub loop-number-init : goal.loop-number-init
loop-number-init g c = record { entries = cleared_none c.args.table.now.entries; room = refl }

pub loop-number-preserved : goal.loop-number-preserved
loop-number-preserved g c = record {
  entries = cleared_more c.args.table.now.entries c.loop-number.table.entries c.set.new.self.entries c.loop-number.number c.loop-number.invariant.entries c.set.ensures.entries;
  room = c.set.ensures.room ∙ c.loop-number.invariant.room;
}
