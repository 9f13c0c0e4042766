use Rattle.std.proofs.Common.{◌≡◌}
use Rattle.plant_config.specs.Plant.{destinations_of}
use Rattle.mixer_effects.specs.WiringInside.{AreSpansBelow}
use Rattle.mixer_effects.proofs.mixers.Mixers.new.Given as goal

abbrev pub invariant-loop-number : goal.invariant-loop-number
invariant-loop-number l = record {
  spans : AreSpansBelow l.plant l.number l.span_by_switch.entries l.switched.items;
  room : l.span_by_switch.room ≡ destinations_of l.plant;
}
