use Rattle.std.proofs.Common.{◌≡◌, arith}
use Rattle.tie_pools.proofs.RebuiltLemmas.{cleared_over}
use Rattle.tie_pools.proofs.in_use.InUse.clear.Goals as goal

pub invariant_of-self : goal.invariant_of-self
invariant_of-self c =
    cleared_over c.self.inside.used c.clear.new.table c.self.inside.sizes.items c.self.inside.over c.new-self-inside.result c.self.invariant _ c.clear.ensures.entries
    (omega (arith, c.self.invariant.sized, c.self.invariant.few, c.len-pools.ensures)) c.clear.ensures.room c.new-self-inside.ensures
