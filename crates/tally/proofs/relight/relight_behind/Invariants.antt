use Rattle.std.proofs.Common.{◌+◌, ◌*◌, ◌≤◌, take, length}
use Rattle.mixer_effects.specs.Buses.{buses_at}
use Rattle.tally.specs.Relit.{AreRelit}
use Rattle.tally.proofs.relight.relight_behind.Given as goal

abbrev pub invariant-loop-place : goal.invariant-loop-place
invariant-loop-place g l = record {
  relit : AreRelit l.graph.plant l.graph.crosspoints l.roots (take l.place (buses_at l.graph.plant l.device)) l.fn.marks l.marks l.fn.waiting l.waiting;
  within : l.place ≤ length (buses_at l.graph.plant l.device);
  counted : l.steps ≤ l.fn.steps + 6 * l.place;
}
