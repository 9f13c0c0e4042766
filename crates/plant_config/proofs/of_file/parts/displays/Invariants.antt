use Rattle.std.proofs.Common.{◌≡◌, map, take}
use Rattle.plant_config.specs.PlantOfFile.{display_in}
use Rattle.plant_config.proofs.of_file.parts.displays.Given as goal

abbrev pub invariant-loop-display : goal.invariant-loop-display
invariant-loop-display l = l.made.items ≡ map (display_in l.levels) (take l.display-index l.displays)
