use Rattle.std.proofs.Common.{sym, ◌∙◌}
use Rattle.matrix_driver.proofs.ProgressLemmas.{settled_done, settled_still_due}
use Rattle.matrix_driver.proofs.progress.Progress.settle.Goals as goal

pub invariant_of-self : goal.invariant_of-self
invariant_of-self c =
    let within = rw (← c.self.view_is) at c.requires.within in
    let due = rw (← c.self.view_is) at c.requires.due in
    rw (c.remove.ensures, c.from-dest.ensures)
    (settled_done c.self.inside.wants c.self.inside.settled c.set.new.self c.self.inside.due c.args.crosspoint.now.dest c.self.invariant within due c.set.ensures.room c.args.crosspoint.now.source
    (rw c.from-dest.ensures at c.set.ensures.entries) (sym c.has.ensures ∙ c.if-has.true))

pub invariant_of-self-else-has : goal.invariant_of-self-else-has
invariant_of-self-else-has c =
    let within = rw (← c.self.view_is) at c.requires.within in
    let due = rw (← c.self.view_is) at c.requires.due in
    settled_still_due c.self.inside.wants c.self.inside.settled c.set.new.self c.self.inside.due c.args.crosspoint.now.dest c.self.invariant within due c.set.ensures.room c.args.crosspoint.now.source
    (rw c.from-dest.ensures at c.set.ensures.entries) (sym c.has.ensures ∙ c.if-has.false)
