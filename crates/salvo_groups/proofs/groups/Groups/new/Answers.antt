use Rattle.std.proofs.Common.{◌≡◌, [], ap, ◌∙◌, arith, replicate}
use Rattle.salvo_groups.specs.Groups.{start_groups}
use Rattle.salvo_groups.proofs.AllGroups.{AreGroups-start}
use Rattle.salvo_groups.proofs.groups.Groups.new.Goals as goal

pub invariant_of-result : goal.invariant_of-result
invariant_of-result c =
    let all : c.loop-group._group ≡ 128 = omega arith in
    let is : c.loop-group.groups.items ≡ start_groups = c.loop-group.invariant ∙ ap (λ n. replicate n []) all in
    rw is AreGroups-start
