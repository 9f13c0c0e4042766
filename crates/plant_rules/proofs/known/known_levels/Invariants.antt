use Rattle.std.proofs.Common.{take}
use Rattle.plant_rules.specs.KnownInside.{KnowsLevels}
use Rattle.plant_rules.proofs.known.known_levels.Given as goal

abbrev pub invariant-loop-level : goal.invariant-loop-level
invariant-loop-level l = KnowsLevels l.known (take l.level-index l.levels)
