use Rattle.std.proofs.Common.{◌∙◌, sym, arith}
use Rattle.matrix_driver.proofs.ProgressLemmas.{none_due}
use Rattle.matrix_driver.proofs.progress.Progress.new.Goals as goal

pub invariant_of-result : goal.invariant_of-result
invariant_of-result c =
    none_due c.in_ok-wants.wants c.in_ok-settled.settled c.in_ok-due.due c.in_ok-wants.ensures.empty (omega (arith, c.in_ok-wants.ensures.room, c.requires))
    (c.in_ok-settled.ensures.room ∙ sym c.in_ok-wants.ensures.room) c.in_ok-due.ensures
