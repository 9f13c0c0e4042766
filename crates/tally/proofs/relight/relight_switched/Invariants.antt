use Rattle.std.proofs.Common.{◌+◌, ◌*◌, ◌≤◌, ◌∷◌, take, length}
use Rattle.mixer_effects.specs.Buses.{switched_at}
use Rattle.tally.specs.Relit.{AreRelit}
use Rattle.tally.proofs.relight.relight_switched.Given as goal

abbrev pub invariant-loop-place : goal.invariant-loop-place
invariant-loop-place g l = record {
  relit : AreRelit l.graph.plant l.graph.crosspoints l.roots (l.dest ∷ take l.place (switched_at l.graph.plant l.dest)) l.fn.marks l.marks l.fn.waiting l.waiting;
  within : l.place ≤ length (switched_at l.graph.plant l.dest);
  counted : l.steps ≤ l.fn.steps + 5 + 6 * l.place;
}
