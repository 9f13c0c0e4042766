use Rattle.std.proofs.Common.{◌≡◌, ap, ◌∙◌, arith}
use Rattle.std.specs.FinSet.{insert}
use Rattle.tie_pools.specs.CountsInside.{more_at}
use Rattle.tie_pools.proofs.KeptOver.{over_now, still_within}
use Rattle.tie_pools.proofs.in_use.InUse.more.Goals as goal

pub invariant_of-self : goal.invariant_of-self
invariant_of-self c =
    let within = rw (← c.self.view_is) at c.requires.pool in
    let put : c.insert.new.self ≡ insert c.self.inside.over c.args.pool = c.insert.ensures ∙ ap (insert c.self.inside.over) c.get-then-size-count_of.ensures in
    rw put
    (over_now c.self.inside.used c.count_more.new.counts c.self.inside.sizes.items c.self.inside.over c.args.pool _ c.size_at-size.result c.count_of.result c.self.invariant within c.count_more.ensures.room
    (c.count_more.ensures.entries ∙ ap (more_at c.self.inside.used.entries) c.get-2.ensures)
    (rw (c.deref.ensures.value, c.get.ensures) at c.size_at-size.ensures)
    (rw c.get-3.ensures at c.count_of.ensures) c.if-size-count_of.true)

pub invariant_of-self-else-size-count_of : goal.invariant_of-self-else-size-count_of
invariant_of-self-else-size-count_of c =
    let within = rw (← c.self.view_is) at c.requires.pool in
    still_within c.self.inside.used c.count_more.new.counts c.self.inside.sizes.items c.self.inside.over c.args.pool _ c.size_at-size.result c.count_of.result c.self.invariant within c.count_more.ensures.room
    (c.count_more.ensures.entries ∙ ap (more_at c.self.inside.used.entries) c.get-2.ensures)
    (rw (c.deref.ensures.value, c.get.ensures) at c.size_at-size.ensures)
    (rw c.get-3.ensures at c.count_of.ensures) c.if-size-count_of.false (omega arith)
