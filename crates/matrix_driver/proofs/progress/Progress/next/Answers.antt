use Rattle.std.proofs.Common.{◌≡◌, Some, None, sym, ap, ◌∙◌}
use Rattle.std.specs.Option.{option_map}
use Rattle.std.specs.FinMap.{get}
use Rattle.matrix_driver.specs.Progress.{crosspoint_of, next}
use Rattle.matrix_driver.proofs.ProgressLemmas.{next_is}
use Rattle.matrix_driver.proofs.progress.Progress.next.Goals as goal

pub returns-in_err-number : goal.returns-in_err-number
returns-in_err-number c =
    let none : c.lowest.result ≡ None = cc in
    c.from_residual.ensures
    ∙ next_is c.self.inside.wants c.self.inside.settled c.self.inside.due None c.self.invariant (sym none ∙ c.lowest.ensures.lowest)
    ∙ ap next c.self.view_is

pub returns-in_err-source : goal.returns-in_err-source
returns-in_err-source c =
    let none : get c.self.inside.wants.entries c.in_ok-number.number ≡ None = sym c.get.ensures ∙ c.in_err-source.was in
    c.from_residual-in_err-source.ensures
    ∙ sym (ap (option_map (crosspoint_of c.in_ok-number.number)) none)
    ∙ next_is c.self.inside.wants c.self.inside.settled c.self.inside.due (Some c.in_ok-number.number) c.self.invariant c.in_ok-number.ensures.lowest
    ∙ ap next c.self.view_is

pub returns : goal.returns
returns c =
    let some : get c.self.inside.wants.entries c.in_ok-number.number ≡ Some c.in_ok-source.source = sym c.get.ensures ∙ c.in_ok-source.was in
    sym (ap (option_map (crosspoint_of c.in_ok-number.number)) some)
    ∙ next_is c.self.inside.wants c.self.inside.settled c.self.inside.due (Some c.in_ok-number.number) c.self.invariant c.in_ok-number.ensures.lowest
    ∙ ap next c.self.view_is
