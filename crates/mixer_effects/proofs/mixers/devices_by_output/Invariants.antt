use Rattle.std.proofs.Common.{◌≡◌}
use Rattle.plant_config.specs.Plant.{sources_of}
use Rattle.mixer_effects.specs.WiringInside.{HaveDevicesFrom}
use Rattle.mixer_effects.proofs.mixers.devices_by_output.Given as goal

abbrev pub invariant-loop-number : goal.invariant-loop-number
invariant-loop-number l = record {
  have : HaveDevicesFrom l.plant l.number l.by_output.entries;
  room : l.by_output.room ≡ sources_of l.plant;
}
