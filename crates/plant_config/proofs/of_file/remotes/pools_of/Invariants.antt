use Rattle.std.proofs.Common.{take}
use Rattle.plant_config.specs.OfFileInside.{Maps, pool_among}
use Rattle.plant_config.proofs.of_file.remotes.pools_of.Given as goal

abbrev pub invariant-loop-number : goal.invariant-loop-number
invariant-loop-number l = Maps l.made (pool_among (take l.number l.pools))
