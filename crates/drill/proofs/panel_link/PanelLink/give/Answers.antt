use Rattle.std.proofs.Common.{sym, length, subst}
use Rattle.drill.specs.PanelLinkInside.{GivesPieces}
use Rattle.drill.proofs.LinkLemmas.{gives_on}
use Rattle.drill.proofs.panel_link.PanelLink.give.Goals as goal

pub invariant_of-self : goal.invariant_of-self
invariant_of-self c =
    subst GivesPieces (sym c.give.ensures.after) (gives_on c.self.inside.input.input (length c.args.into.now) c.give.new.into c.self.invariant c.requires c.give.auto.into)
