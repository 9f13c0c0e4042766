use Rattle.std.proofs.Common.{◌≡◌, length}
use Rattle.plant_config.specs.Plant.{destinations_of}
use Rattle.due_displays.specs.Watchers.{AreWatchersBelow}
use Rattle.due_displays.proofs.watchers.Watchers.new.Given as goal

abbrev pub invariant-loop-number : goal.invariant-loop-number
invariant-loop-number l = record {
  many : length l.lasts.items ≡ destinations_of l.plant;
  below : AreWatchersBelow l.plant.displays l.number l.lasts.items l.befores.items;
}
