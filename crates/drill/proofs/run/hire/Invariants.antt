use Rattle.std.proofs.Common.{◌≡◌, ◌+◌, ◌++◌, length, vec_capacity}
use Rattle.drill.specs.WorkerInside.{EachWorker, IsReady, seats_of}
use Rattle.drill.proofs.run.hire.Given as goal

-- The seats so far have their workers, the others are left, and there is room for theirs.
abbrev pub invariant-loop-panel : goal.invariant-loop-panel
invariant-loop-panel l = record {
  left : length l.seats.items + l.panel ≡ l.load.panels;
  counted : length l.workers.items ≡ l.panel;
  shared : seats_of l.workers.items ++ l.seats.items ≡ l.fn.seats.items;
  room : vec_capacity l.workers ≡ l.load.panels;
  ready : EachWorker (IsReady l.load) l.workers.items;
}
