use Rattle.std.proofs.Common.{◌≡◌, ◌<◌, Some, sym, ap, subst, ◌∙◌}
use Rattle.std.specs.Option.{IfSome}
use Rattle.plant_config.specs.Limits.{tie_limit}
use Rattle.tie_pools.specs.HoldingsInside.{tie_for}
use Rattle.tie_pools.specs.CommitInside.{holdings_of}
use Rattle.tie_pools.proofs.ties.Ties.come.Goals as goal

-- the tie that is found is one that a pool may have
pub hold-requires-clause-tie : goal.hold-requires-clause-tie
hold-requires-clause-tie c =
    let found : tie_for (holdings_of c.args.self.now) c.args.route.pool c.args.route.way ≡ Some c.in_ok-tie.tie =
    ap (λ counts. tie_for (holdings_of counts) c.args.route.pool c.args.route.way) (sym c.self.view_is) ∙ sym c.in_ok-tie.ensures in
    subst (λ found. IfSome found (λ tie. tie < tie_limit)) found c.requires.tie
