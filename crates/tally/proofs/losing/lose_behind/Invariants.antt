use Rattle.std.proofs.Common.{◌+◌, ◌*◌, ◌≤◌, take, length}
use Rattle.mixer_effects.specs.Buses.{buses_at}
use Rattle.tally.specs.Lost.{AreLost, no_roots}
use Rattle.tally.proofs.losing.lose_behind.Given as goal

abbrev pub invariant-loop-place : goal.invariant-loop-place
invariant-loop-place g l = record {
  lost : AreLost l.graph.plant (no_roots l.roots (take l.place (buses_at l.graph.plant l.device))) l.fn.marks l.marks l.fn.waiting l.waiting l.doubted;
  within : l.place ≤ length (buses_at l.graph.plant l.device);
  counted : l.steps ≤ l.fn.steps + 3 * l.place;
}
