use Rattle.std.proofs.Common.{◌+◌, ◌*◌, ◌≤◌, ◌∷◌, take, length}
use Rattle.mixer_effects.specs.Buses.{switched_at}
use Rattle.tally.specs.Lost.{AreLost}
use Rattle.tally.proofs.losing.lose_switched.Given as goal

abbrev pub invariant-loop-place : goal.invariant-loop-place
invariant-loop-place g l = record {
  lost : AreLost l.graph.plant (l.dest ∷ take l.place (switched_at l.graph.plant l.dest)) l.fn.marks l.marks l.fn.waiting l.waiting l.doubted;
  within : l.place ≤ length (switched_at l.graph.plant l.dest);
  counted : l.steps ≤ l.fn.steps + 2 + 3 * l.place;
}
