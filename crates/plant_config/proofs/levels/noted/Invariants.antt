use Rattle.std.proofs.Common.{◌≡◌, drop, length}
use Rattle.plant_config.specs.LevelsInside.{AreNotedOf}
use Rattle.plant_config.proofs.levels.noted.Given as goal

abbrev pub invariant-loop-index : goal.invariant-loop-index
invariant-loop-index l = (length l.places ≡ 256) × AreNotedOf l.levels l.places (drop l.index l.levels)
