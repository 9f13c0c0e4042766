use Rattle.matrix_driver.proofs.ProgressLemmas.{opened_kept}
use Rattle.matrix_driver.proofs.progress.Progress.open.Goals as goal

pub invariant_of-self : goal.invariant_of-self
invariant_of-self c =
    let within = rw (← c.self.view_is) at c.requires.within in
    let due = rw (← c.self.view_is) at c.requires.due in
    opened_kept c.self.inside.wants c.self.inside.settled c.set.new.self c.self.inside.due c.args.dest c.self.invariant within due c.set.ensures.room
    (rw c.from.ensures at c.set.ensures.entries)
