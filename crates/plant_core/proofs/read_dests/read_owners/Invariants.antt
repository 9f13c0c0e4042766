use Rattle.std.proofs.Common.{◌≡◌}
use Rattle.plant_core.specs.ReadInside.{owner_in, HaveBelow}
use Rattle.plant_core.proofs.read_dests.read_owners.Given as goal

abbrev pub invariant-loop-number : goal.invariant-loop-number
invariant-loop-number l = record {
  each : HaveBelow l.number (owner_in l.bytes) l.protects.entries;
  room : l.protects.room ≡ l.destinations;
}
