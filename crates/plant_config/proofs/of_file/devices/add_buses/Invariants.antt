use Rattle.std.proofs.Common.{◌≡◌, ◌++◌, take}
use Rattle.plant_config.specs.PlantOfFile.{device_buses}
use Rattle.plant_config.proofs.of_file.devices.add_buses.Given as goal

abbrev pub invariant-loop-bus : goal.invariant-loop-bus
invariant-loop-bus l =
    l.made.items ≡ l.initial.made.items ++ device_buses l.levels (take l.bus-index l.buses) l.number l.device
