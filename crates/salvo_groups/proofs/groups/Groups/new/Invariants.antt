use Rattle.std.proofs.Common.{◌≡◌, [], replicate}
use Rattle.salvo_groups.proofs.groups.Groups.new.Given as goal

abbrev pub invariant-loop-group : goal.invariant-loop-group
invariant-loop-group l = l.groups.items ≡ replicate l._group []
