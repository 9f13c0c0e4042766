use Rattle.std.proofs.Common.{◌≡◌, Some, slice_get, sym, ap, subst, ◌∙◌}
use mathlib.Core.Bool.{true≢false}
use Rattle.plant_core.specs.declared.request.Request.{Request}
use Rattle.standby.specs.Standby.{Data}
use Rattle.standby.proofs.CodeLemmas.{kept-is, takes_same, takes_different}
use Rattle.standby.proofs.standby.Standby.keep.Goals as goal

pub invariant_of-self : goal.invariant_of-self
invariant_of-self c =
    rw c.keep.ensures (kept-is (record { state = c.self.inside.replica.state; applied = c.self.inside.applied; window = c.self.inside.window }) c.args.offset c.args.request.now c.self.invariant c.requires.ahead (rw (← c.self.view_is) at c.requires.may))

pub returns-then-are_same-clause-takes : goal.returns-then-are_same-clause-takes
returns-then-are_same-clause-takes c =
    let same : c.in-Some.kept.now ≡ c.args.request.now = c.are_same.ensures.0 c.if-are_same.true in
    let kept = sym (ap (λ (standby : Data). slice_get standby.window c.args.offset) c.self.view_is) ∙ c.in-Some.ensures in
    takes_same c.args.self.now c.args.offset c.args.request.now c.requires.ahead c.requires.within
    (subst (λ (request : Request). slice_get c.args.self.now.window c.args.offset ≡ Some (Some request)) same kept)

pub returns-else-are_same-clause-takes : goal.returns-else-are_same-clause-takes
returns-else-are_same-clause-takes c =
    let kept = sym (ap (λ (standby : Data). slice_get standby.window c.args.offset) c.self.view_is) ∙ c.in-Some.ensures in
    takes_different c.args.self.now c.args.offset c.args.request.now c.in-Some.kept.now kept
    (λ e. true≢false (sym (c.are_same.ensures.1 e) ∙ c.if-are_same.false))
