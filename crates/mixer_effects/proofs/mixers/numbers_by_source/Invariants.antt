use Rattle.std.proofs.Common.{◌≡◌}
use Rattle.plant_config.specs.Plant.{sources_of}
use Rattle.mixer_effects.specs.WiringInside.{HaveNumbersBelow}
use Rattle.mixer_effects.proofs.mixers.numbers_by_source.Given as goal

abbrev pub invariant-loop-number : goal.invariant-loop-number
invariant-loop-number l = record {
  have : HaveNumbersBelow l.plant l.number l.by_source.entries;
  room : l.by_source.room ≡ sources_of l.plant;
}
