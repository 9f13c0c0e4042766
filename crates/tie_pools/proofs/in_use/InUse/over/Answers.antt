use Rattle.std.proofs.Common.{◌≡◌, Some, None, ap, sym, ◌∙◌}
use Rattle.tie_pools.specs.DemandInside.{over}
use Rattle.tie_pools.proofs.KeptOver.{over_is}
use Rattle.tie_pools.proofs.in_use.InUse.over.Goals as goal

pub returns-in_err-number : goal.returns-in_err-number
returns-in_err-number c =
    let none : c.lowest.result ≡ None = cc in
    let is = over_is c.self.inside.used c.self.inside.sizes.items c.self.inside.over None c.self.invariant (sym none ∙ c.lowest.ensures.lowest) in
    c.from_residual.ensures ∙ is ∙ ap over c.self.view_is

pub returns : goal.returns
returns c =
    let is = over_is c.self.inside.used c.self.inside.sizes.items c.self.inside.over (Some c.in_ok-number.number) c.self.invariant c.in_ok-number.ensures.lowest in
    rw (c.of.ensures, c.count_of.ensures, c.size_at.ensures, c.deref.ensures.value)
    (is ∙ ap over c.self.view_is)
