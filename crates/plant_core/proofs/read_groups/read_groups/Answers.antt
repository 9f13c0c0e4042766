use Rattle.std.proofs.Common.{arith}
use Rattle.plant_core.proofs.GroupPartLemmas.{groups_none, groups_more, groups_whole}
use Rattle.plant_core.proofs.read_groups.read_groups.Goals as goal

pub loop-group-init : goal.loop-group-init
loop-group-init c = groups_none c.args.plant.now c.args.bytes.now _ c.in_ok-groups.ensures

pub loop-group-preserved : goal.loop-group-preserved
loop-group-preserved c =
    groups_more c.args.plant.now c.args.bytes.now c.loop-group.groups c.read_group.new.groups c.loop-group.group c.loop-group.invariant c.read_group.ensures.changes c.read_group.ensures.others c.read_group.ensures.groups

pub returns : goal.returns
returns c =
    groups_whole c.args.plant.now c.args.bytes.now c.loop-group.groups c.loop-group.group c.requires.plant c.requires.whole c.requires.size (λ place. omega (arith, c.type_inv.bytes place)) (omega arith) c.loop-group.invariant
