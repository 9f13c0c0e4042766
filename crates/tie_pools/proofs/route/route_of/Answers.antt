use Rattle.std.proofs.Common.{sym, ◌∙◌}
use Rattle.tie_pools.proofs.RouteLemmas.{way_below}
use Rattle.tie_pools.proofs.route.route_of.Goals as goal

pub returns-clause-within : goal.returns-clause-within
returns-clause-within c = record {
  pool = c.in_ok-pool.ensures.below;
  way = way_below c.args.plant.now c.in_ok-source.source c.in_ok-way.way c.in_ok-pool.ensures.plant (sym (c.requires c.in_ok-source.source) ∙ sym c.in_ok-way.ensures);
}
