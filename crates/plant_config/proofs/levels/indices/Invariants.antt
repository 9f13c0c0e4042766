use Rattle.std.proofs.Common.{◌≡◌, ◌++◌, drop}
use Rattle.plant_config.specs.LevelsInside.{indices_from}
use Rattle.plant_config.proofs.levels.indices.Given as goal

abbrev pub invariant-loop-index : goal.invariant-loop-index
invariant-loop-index l = l.indices.items ++ indices_from l.index (drop l.index l.counts) ≡ indices_from 0 l.counts
