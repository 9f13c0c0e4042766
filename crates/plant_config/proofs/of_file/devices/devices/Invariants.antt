use Rattle.std.proofs.Common.{◌≡◌, ◌≤◌, ◌*◌, length, sum_by, take}
use Rattle.plant_config.specs.PlantOfFile.{named_buses}
use Rattle.plant_config.specs.OfFileInside.{devices_from}
use Rattle.plant_config.proofs.of_file.devices.devices.Given as goal

abbrev pub invariant-loop-device : goal.invariant-loop-device
invariant-loop-device l = record {
  made : l.made.items ≡ devices_from l.levels l.devices l.buses (take l.device-index l.devices);
  first : l.first_bus ≡ sum_by (λ device. length (named_buses l.buses device)) (take l.device-index l.devices);
  low : l.first_bus ≤ 1024 * l.device-index;
}
