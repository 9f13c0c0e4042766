use Rattle.std.proofs.Common.{sym, ◌∙◌}
use Rattle.matrix_driver.proofs.ProgressLemmas.{noted_settled, noted_due}
use Rattle.matrix_driver.proofs.progress.Progress.note.Goals as goal

pub invariant_of-self : goal.invariant_of-self
invariant_of-self c =
    let within = rw (← c.self.view_is) at c.requires in
    rw (c.remove.ensures, c.from-dest.ensures)
    (noted_settled c.self.inside.wants c.set.new.self c.self.inside.settled c.self.inside.due c.args.crosspoint.now c.self.invariant within c.set.ensures.room
    (rw c.from-dest.ensures at c.set.ensures.entries) (sym c.has.ensures ∙ c.if-has.true))

pub invariant_of-self-else-has : goal.invariant_of-self-else-has
invariant_of-self-else-has c =
    let within = rw (← c.self.view_is) at c.requires in
    rw (c.insert.ensures, c.from-dest.ensures)
    (noted_due c.self.inside.wants c.set.new.self c.self.inside.settled c.self.inside.due c.args.crosspoint.now c.self.invariant within c.set.ensures.room
    (rw c.from-dest.ensures at c.set.ensures.entries) (sym c.has.ensures ∙ c.if-has.false))
