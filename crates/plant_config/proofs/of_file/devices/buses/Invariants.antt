use Rattle.std.proofs.Common.{◌≡◌, take}
use Rattle.plant_config.specs.PlantOfFile.{buses_in}
use Rattle.plant_config.proofs.of_file.devices.buses.Given as goal

abbrev pub invariant-loop-number : goal.invariant-loop-number
invariant-loop-number l = l.made.items ≡ buses_in l.levels (take l.number l.devices) l.buses
