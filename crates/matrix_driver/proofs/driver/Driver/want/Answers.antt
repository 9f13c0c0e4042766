use Rattle.std.proofs.Common.{◌≡◌, true, ◌||◌, is_some, sym, ap, ◌∙◌}
use Rattle.std.proofs.lemmas.Bool.{or_left, or_right}
use Rattle.matrix_driver.specs.Progress.{is_settled, noted}
use Rattle.matrix_driver.proofs.DriverLemmas.{IsDriver-noted, IsDriver-sent, IsProgress-noted, unsettled_due}
use Rattle.matrix_driver.proofs.driver.Driver.want.Goals as goal
use Rattle.matrix_driver.proofs.driver.Driver.want.Goals.{then-is_some-via-then-is_some, then-is_some-via-else-is_some+then-is_settled}

pub invariant_of-self : goal.invariant_of-self
invariant_of-self c =
    let of = rw (← c.self.view_is) at c.requires in
    let busy : (is_some c.self.inside.outstanding || is_settled c.self.inside.progress c.args.crosspoint.now) ≡ true =
    elim c.then-is_some.branch [
      | then-is_some-via-then-is_some w ↦ or_left _ _ (sym c.is_some.ensures ∙ w.if-is_some.true)
      | then-is_some-via-else-is_some+then-is_settled w ↦
          or_right _ _ (sym (ap (λ progress. is_settled progress c.args.crosspoint.now) c.note.ensures) ∙ sym w.is_settled.ensures ∙ w.if-is_settled.true)
    ] in
    rw c.note.ensures
    (IsDriver-noted (record { level = c.self.inside.level; progress = c.self.inside.progress; outstanding = c.self.inside.outstanding }) c.args.crosspoint.now c.self.invariant of busy)

pub open-requires-clause-due : goal.open-requires-clause-due
open-requires-clause-due c =
    rw c.note.ensures
    (unsettled_due c.self.inside.progress c.args.crosspoint.now
    (sym (ap (λ progress. is_settled progress c.args.crosspoint.now) c.note.ensures) ∙ sym c.is_settled.ensures ∙ c.if-is_settled.false))

pub invariant_of-self-2 : goal.invariant_of-self-2
invariant_of-self-2 c =
    let of = rw (← c.self.view_is) at c.requires in
    rw (c.open.ensures, c.note.ensures)
    (IsDriver-sent c.self.inside.level (noted c.self.inside.progress c.args.crosspoint.now) c.args.crosspoint.now c.self.invariant.level
    (IsProgress-noted c.self.inside.level c.self.inside.progress c.args.crosspoint.now c.self.invariant.progress of) of
    (unsettled_due c.self.inside.progress c.args.crosspoint.now
    (sym (ap (λ progress. is_settled progress c.args.crosspoint.now) c.note.ensures) ∙ sym c.is_settled.ensures ∙ c.if-is_settled.false)))
