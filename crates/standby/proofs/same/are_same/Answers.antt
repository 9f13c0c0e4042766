use Rattle.std.proofs.Common.{sym, ◌∙◌}
use Rattle.standby.proofs.SameLemmas.{same_request, request_eq-same}
use Rattle.standby.proofs.same.are_same.Goals as goal

pub returns : goal.returns
returns c = (
  λ e. same_request c.args.one.now c.args.other.now (sym c.eq.ensures ∙ e),
  λ e. c.eq.ensures ∙ request_eq-same c.args.one.now c.args.other.now e,
)
