use Rattle.std.proofs.Common.{◌≡◌}
use Rattle.plant_config.specs.Plant.{destinations_of}
use Rattle.mixer_effects.specs.WiringInside.{HaveBusesFrom}
use Rattle.mixer_effects.proofs.mixers.buses_by_dest.Given as goal

abbrev pub invariant-loop-number : goal.invariant-loop-number
invariant-loop-number l = record {
  have : HaveBusesFrom l.plant l.number l.by_dest.entries;
  room : l.by_dest.room ≡ destinations_of l.plant;
}
