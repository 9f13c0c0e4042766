use Rattle.std.proofs.Common.{◌≤◌, vec_capacity}
use Rattle.plant_config.specs.Plant.{destinations_of}
use Rattle.plant_core.specs.ReadInside.{AreBrought}
use Rattle.plant_core.proofs.brought.brought.Given as goal

abbrev pub invariant-loop-number : goal.invariant-loop-number
invariant-loop-number l = record {
  brought : AreBrought l.points.entries l.number l.changes.items;
  room : destinations_of l.plant ≤ vec_capacity l.changes;
}
