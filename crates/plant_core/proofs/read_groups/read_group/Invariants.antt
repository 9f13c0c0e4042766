use Rattle.std.proofs.Common.{◌≡◌}
use Rattle.salvo_groups.specs.Groups.{group_of, AreGroups}
use Rattle.salvo_groups.specs.Laws.{SameGroupsBut}
use Rattle.plant_core.specs.ReadParts.{changes_in}
use Rattle.plant_core.proofs.read_groups.read_group.Given as goal

abbrev pub invariant-loop-index : goal.invariant-loop-index
invariant-loop-index l = record {
  changes : group_of l.groups l.group ≡ changes_in l.plant l.bytes l.group l.index;
  others : SameGroupsBut l.initial.groups l.groups l.group;
  groups : AreGroups l.groups;
}
