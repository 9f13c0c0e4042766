use Rattle.std.proofs.Common.{◌≡◌, ℕ, Option, Some, None, sym, ap, subst, ◌∙◌}
use Rattle.tap_lists.specs.Lists.{Lists, IsHeadOf}
use Rattle.mixer_effects.specs.GraphData.{GraphData}
use Rattle.mixer_effects.proofs.graph.Graph.origin_at.Goals as goal

pub returns-in_err-head-clause-head : goal.returns-in_err-head-clause-head
returns-in_err-head-clause-head g c =
    let taps : c.taps.result.now ≡ c.args.self.now.taps = c.taps.ensures ∙ ap (λ (graph : GraphData). graph.taps) c.self.view_is in
    let head : IsHeadOf c.taps.result.now c.args.dest None = subst (λ (dest : ℕ). IsHeadOf c.taps.result.now dest None) c.get.ensures c.in_err-head.ensures in
    subst (λ (result : Option ℕ). IsHeadOf c.args.self.now.taps c.args.dest result) (sym c.from_residual.ensures)
    (subst (λ (taps : Lists). IsHeadOf taps c.args.dest None) taps head)

pub returns-clause-head : goal.returns-clause-head
returns-clause-head g c =
    let taps : c.taps.result.now ≡ c.args.self.now.taps = c.taps.ensures ∙ ap (λ (graph : GraphData). graph.taps) c.self.view_is in
    let head : IsHeadOf c.taps.result.now c.args.dest (Some c.in_ok-head.head) = subst (λ (dest : ℕ). IsHeadOf c.taps.result.now dest (Some c.in_ok-head.head)) c.get.ensures c.in_ok-head.ensures in
    subst (λ (head : ℕ). IsHeadOf c.args.self.now.taps c.args.dest (Some head)) (sym c.of.ensures)
    (subst (λ (taps : Lists). IsHeadOf taps c.args.dest (Some c.in_ok-head.head)) taps head)
