use Rattle.std.proofs.Common.{length, List, ap, ◌∙◌}
use Rattle.std.proofs.lemmas.List.{length-map}
use Rattle.number_tables.specs.Numbers.{Numbers}
use Rattle.plant_config.specs.declared.records.Pool.{Pool}
use Rattle.tie_pools.specs.HoldingsInside.{ties_below}
use Rattle.tie_pools.proofs.EmptyLemmas.{counts_empty}
use Rattle.tie_pools.proofs.ties.Ties.new.Goals as goal

pub returns : goal.returns
returns c =
    counts_empty c.args.plant.now _ c.in_ok-ways.ensures
    (record {
      fed = c.in_ok-demand.ensures.room.fed;
      used = c.in_ok-demand.ensures.room.used;
      sizes = c.in_ok-demand.ensures.room.sizes;
      ties = c.in_ok-holdings.ensures.room;
      free = ap (λ (free : List Numbers). length free) c.in_ok-holdings.ensures.free ∙ length-map c.args.plant.now.pools (λ (pool : Pool). ties_below pool.ties);
    })
    c.in_ok-demand.ensures.fed c.in_ok-demand.ensures.used c.in_ok-holdings.ensures.ties c.in_ok-holdings.ensures.free
