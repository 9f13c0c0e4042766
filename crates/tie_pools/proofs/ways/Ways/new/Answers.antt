use Rattle.std.proofs.Common.{◌≡◌, ℕ, ◌+◌, length, arith, ap, subst, ◌∙◌}
use Rattle.tie_pools.specs.Ways.{source_way}
use Rattle.tie_pools.specs.WaysInside.{AreLowest, AreWaysBelow}
use Rattle.tie_pools.proofs.LowestWays.{lowest_none, ways_none, ways_more, ways_all}
use Rattle.tie_pools.proofs.ways.Ways.new.Goals as goal

pub loop-number-init : goal.loop-number-init
loop-number-init c = record {
  lowest = lowest_none c.args.plant.now c.new-lowest.result c.new-lowest.ensures.empty;
  ways = ways_none c.args.plant.now c.in_ok-ways.ways.entries c.in_ok-ways.ensures.empty;
  room = c.in_ok-ways.ensures.room ∙ c.source_count-sources.ensures.count;
}

pub loop-number-preserved : goal.loop-number-preserved
loop-number-preserved c =
    let plant = c.args.plant.now in
    let number = c.loop-number.number in
    record {
      lowest = subst (λ (source : ℕ). AreLowest plant (source + 1) c.way_for.new.lowest) c.of.ensures c.in_ok-way.ensures.lowest;
      ways = ways_more plant number c.loop-number.ways.entries c.set.new.self.entries c.in_ok-way.way c.loop-number.invariant.ways (c.in_ok-way.ensures.way ∙ ap (source_way plant) c.of.ensures) c.set.ensures.entries;
      room = c.set.ensures.room ∙ c.loop-number.invariant.room;
    }

pub returns : goal.returns
returns c =
    let plant = c.args.plant.now in
    let all : c.loop-number.number ≡ length plant.sources = omega (arith, c.loop-number-test.false, c.loop-number.auto.number-end, c.source_count-sources.ensures.count, c.source_count-sources.ensures.plant.named.sources) in
    ways_all plant c.loop-number.ways.entries (subst (λ (number : ℕ). AreWaysBelow plant number c.loop-number.ways.entries) all c.loop-number.invariant.ways)
