-- Each table knows its section.
use Rattle.plant_rules.proofs.KnownLemmas.{KnowsRemotes-from_set, KnowsPools-from_set, KnowsDevices-from_set}
use Rattle.plant_rules.proofs.known.Known.of.Goals as goal

pub invariant_of-result : goal.invariant_of-result
invariant_of-result c = record {
  levels_known = rw c.levels.ensures at c.in_ok-known_levels.ensures;
  remotes_known = rw c.remotes.ensures at (KnowsRemotes-from_set _ _ c.in_ok-known_remotes.ensures);
  pools_known = rw c.pools.ensures at (KnowsPools-from_set _ _ c.in_ok-known_pools.ensures);
  devices_known = rw c.devices.ensures at (KnowsDevices-from_set _ _ c.in_ok-known_devices.ensures);
}
