use Rattle.std.proofs.Common.{◌≡◌, flat_map, take}
use Rattle.plant_config.specs.PlantOfFile.{sources_at}
use Rattle.plant_config.specs.OfFileInside.{shown}
use Rattle.plant_config.proofs.of_file.sources.Origins.sources.Given as goal

abbrev pub invariant-loop-level : goal.invariant-loop-level
invariant-loop-level l = l.made.items ≡ flat_map (sources_at l.self.levels.now l.self.file.now) (shown (take l.level-index l.ordered))
