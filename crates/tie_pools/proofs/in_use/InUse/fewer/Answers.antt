use Rattle.std.proofs.Common.{◌≡◌, ap, ◌∙◌, arith}
use Rattle.std.specs.FinSet.{remove}
use Rattle.tie_pools.specs.CountsInside.{fewer_at}
use Rattle.tie_pools.proofs.KeptOver.{within_now, still_over}
use Rattle.tie_pools.proofs.in_use.InUse.fewer.Goals as goal

pub invariant_of-self : goal.invariant_of-self
invariant_of-self c =
    let within = rw (← c.self.view_is) at c.requires in
    let taken : c.remove.new.self ≡ remove c.self.inside.over c.args.pool = c.remove.ensures ∙ ap (remove c.self.inside.over) c.get-then-count_of-size.ensures in
    rw taken
    (within_now c.self.inside.used c.count_fewer.new.counts c.self.inside.sizes.items c.self.inside.over c.args.pool _ c.size_at-size.result c.count_of.result c.self.invariant within c.count_fewer.ensures.room
    (c.count_fewer.ensures.entries ∙ ap (fewer_at c.self.inside.used.entries) c.get-2.ensures)
    (rw (c.deref.ensures.value, c.get.ensures) at c.size_at-size.ensures)
    (rw c.get-3.ensures at c.count_of.ensures) c.if-count_of-size.true)

pub invariant_of-self-else-count_of-size : goal.invariant_of-self-else-count_of-size
invariant_of-self-else-count_of-size c =
    let within = rw (← c.self.view_is) at c.requires in
    still_over c.self.inside.used c.count_fewer.new.counts c.self.inside.sizes.items c.self.inside.over c.args.pool _ c.size_at-size.result c.count_of.result c.self.invariant within c.count_fewer.ensures.room
    (c.count_fewer.ensures.entries ∙ ap (fewer_at c.self.inside.used.entries) c.get-2.ensures)
    (rw (c.deref.ensures.value, c.get.ensures) at c.size_at-size.ensures)
    (rw c.get-3.ensures at c.count_of.ensures) c.if-count_of-size.false (omega arith)
