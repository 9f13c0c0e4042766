use Rattle.std.proofs.Common.{ap, sym, ◌∙◌, subst}
use Rattle.ctl_net.specs.MemLink.{LinkState, unread}
use Rattle.drill.specs.PanelLinkInside.{GivesPieces}
use Rattle.drill.proofs.LinkLemmas.{begins}
use Rattle.drill.proofs.panel_link.PanelLink.new.Goals as goal

pub invariant_of-result : goal.invariant_of-result
invariant_of-result c =
    subst GivesPieces (sym (ap (λ (link : LinkState). link.input) c.in_ok-new.ensures ∙ ap (unread c.args.pieces.items) c.new.ensures.items)) (begins c.args.pieces.items c.requires)
