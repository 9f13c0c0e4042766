use Rattle.std.proofs.Common.{arith, ◌∙◌}
use Rattle.plant_names.proofs.NameLists.{insert_key-take}
use Rattle.plant_names.proofs.level.index_of.Goals as goal

pub loop-name-preserved : goal.loop-name-preserved
loop-name-preserved c = c.in_ok-insert.ensures.keys ∙ rw c.loop-name.invariant (insert_key-take c.args.names.now c.loop-name.name-index _ c.requires (omega arith) c.name-item.is)
