use Rattle.std.proofs.Common.{◌≡◌, ◌∙◌, count_by, is_some, slice_get, slice_set, None, ap, sym, arith}
use Rattle.standby.specs.Standby.{Window}
use Rattle.standby.proofs.WindowLemmas.{moved_empty, set_same}
use Rattle.standby.proofs.window.Window.move_on.Goals as goal

pub returns-then-self-eq0-clause-request : goal.returns-then-self-eq0-clause-request
returns-then-self-eq0-clause-request c =
    let none : count_by is_some c.self.inside.places.items ≡ 0 = omega (arith, c.self.invariant.counted, c.if-self-eq0.true) in
    ap (λ (window : Window). slice_get window 0) (moved_empty c.args.self.now (ap (λ (window : Window). count_by is_some window) (sym c.self.view_is) ∙ none) c.requires) ∙ c.requires

pub returns-then-self-eq0-clause-window : goal.returns-then-self-eq0-clause-window
returns-then-self-eq0-clause-window c =
    let none : count_by is_some c.self.inside.places.items ≡ 0 = omega (arith, c.self.invariant.counted, c.if-self-eq0.true) in
    sym (ap (λ (window : Window). slice_set window 0 None) (moved_empty c.args.self.now (ap (λ (window : Window). count_by is_some window) (sym c.self.view_is) ∙ none) c.requires)
    ∙ set_same c.args.self.now 0 None c.requires)
