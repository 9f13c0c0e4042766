use Rattle.std.proofs.Common.{◌≡◌}
use Rattle.plant_config.specs.Plant.{sources_of}
use Rattle.tie_pools.specs.WaysInside.{AreLowest, AreWaysBelow}
use Rattle.tie_pools.proofs.ways.Ways.new.Given as goal

abbrev pub invariant-loop-number : goal.invariant-loop-number
invariant-loop-number l = record {
  lowest : AreLowest l.plant l.number l.lowest;
  ways : AreWaysBelow l.plant l.number l.ways.entries;
  room : l.ways.room ≡ sources_of l.plant;
}
