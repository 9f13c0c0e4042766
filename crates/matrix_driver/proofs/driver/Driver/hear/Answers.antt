use Rattle.std.proofs.Common.{◌≡◌, Some, None, sym, ap, ◌∙◌}
use Rattle.matrix_driver.specs.Progress.{next, settled_at}
use Rattle.matrix_driver.proofs.DriverLemmas.{IsDriver-sends, IsProgress-settled, next-IsNext}
use Rattle.matrix_driver.proofs.driver.Driver.hear.Goals as goal

pub invariant_of-self : goal.invariant_of-self
invariant_of-self c =
    let none : next (settled_at c.self.inside.progress c.in_ok-sent.sent) ≡ None =
    sym (ap next c.settle.ensures) ∙ sym c.next-self-inside.ensures ∙ c.in_err-next.was in
    rw (c.in_err-next.was, c.settle.ensures)
    (IsDriver-sends c.self.inside.level (settled_at c.self.inside.progress c.in_ok-sent.sent) c.self.invariant.level
    (IsProgress-settled c.self.inside.level c.self.inside.progress c.in_ok-sent.sent c.self.invariant.progress) None none)

pub open-requires-clause-due : goal.open-requires-clause-due
open-requires-clause-due c = (next-IsNext c.settle.new.self c.in_ok-next.next (sym c.next-self-inside.ensures ∙ c.in_ok-next.was)).due

pub invariant_of-self-2 : goal.invariant_of-self-2
invariant_of-self-2 c =
    let some : next (settled_at c.self.inside.progress c.in_ok-sent.sent) ≡ Some c.in_ok-next.next =
    sym (ap next c.settle.ensures) ∙ sym c.next-self-inside.ensures ∙ c.in_ok-next.was in
    rw (c.in_ok-next.was, c.open.ensures, c.settle.ensures)
    (IsDriver-sends c.self.inside.level (settled_at c.self.inside.progress c.in_ok-sent.sent) c.self.invariant.level
    (IsProgress-settled c.self.inside.level c.self.inside.progress c.in_ok-sent.sent c.self.invariant.progress) (Some c.in_ok-next.next) some)
