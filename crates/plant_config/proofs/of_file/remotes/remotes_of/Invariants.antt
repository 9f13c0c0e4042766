use Rattle.std.proofs.Common.{take}
use Rattle.plant_config.specs.OfFileInside.{Maps, remote_among}
use Rattle.plant_config.proofs.of_file.remotes.remotes_of.Given as goal

abbrev pub invariant-loop-remote : goal.invariant-loop-remote
invariant-loop-remote l = Maps l.made (remote_among (take l.remote-index l.remotes))
