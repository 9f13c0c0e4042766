use Rattle.std.proofs.Common.{◌≡◌, map, take}
use Rattle.plant_config.specs.PlantOfFile.{root_in}
use Rattle.plant_config.proofs.of_file.parts.roots.Given as goal

abbrev pub invariant-loop-root : goal.invariant-loop-root
invariant-loop-root l = l.made.items ≡ map (root_in l.levels) (take l.root-index l.roots)
