use Rattle.std.proofs.Common.{◌≡◌, [], arith}
use Rattle.std.proofs.lemmas.List.{get_or_read}
use Rattle.salvo_groups.specs.Groups.{group_of}
use Rattle.salvo_groups.proofs.AllGroups.{AreGroups-store, set-asked}
use Rattle.salvo_groups.proofs.groups.Groups.store.Goals as goal

pub invariant_of-self : goal.invariant_of-self
invariant_of-self c =
    let groups = c.self.inside.groups.items in
    let was : c.index_mut-entries.result.now ≡ group_of groups c.from.result = get_or_read groups c.from.result _ (omega (arith, c.requires, c.from.ensures, c.self.invariant.count)) c.index_mut-entries.ensures.value [] in
    rw (c.store.ensures.group, was, set-asked groups c.from.result c.args.change) (AreGroups-store groups c.from.result c.args.change c.self.invariant)
