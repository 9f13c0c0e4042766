use Rattle.std.proofs.Common.{ℕ, refl, subst}
use Rattle.tie_pools.specs.RebuiltInside.{AreCleared}
use Rattle.tie_pools.proofs.RebuiltLemmas.{emptied}
use Rattle.tie_pools.proofs.ties.Ties.clear.Goals as goal

pub returns : goal.returns
returns c =
    let is = rw (← c.self.view_is) at c.requires.counts.counted in
    emptied c.args.plant.now c.requires.counts.points _ _ c.requires.plant is
    (record {
      ways = refl;
      room = record {
        fed = c.clear.ensures.room.fed;
        used = c.clear.ensures.room.used;
        sizes = c.clear.ensures.room.sizes;
        ties = c.clear-2.ensures.ways;
        free = c.clear-2.ensures.pools;
      };
      fed = subst (λ (count : ℕ). AreCleared c.self.inside.demand.fed.entries c.clear.new.self.fed.entries count) is.room.fed c.clear.ensures.fed;
      used = subst (λ (count : ℕ). AreCleared c.self.inside.demand.used.entries c.clear.new.self.used.entries count) is.room.used c.clear.ensures.used;
      ties = c.clear-2.ensures.ties;
      free = c.clear-2.ensures.free;
    })
