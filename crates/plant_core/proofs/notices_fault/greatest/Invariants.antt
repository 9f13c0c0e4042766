use Rattle.std.proofs.Common.{ℕ, ◌+◌, ◌<◌, ◌≤◌}
use Rattle.plant_core.specs.StateFields.{byte_at}
use Rattle.plant_core.proofs.notices_fault.greatest.Given as goal

abbrev pub invariant-loop-at : goal.invariant-loop-at
invariant-loop-at l = (at : ℕ) → at < l.at → byte_at l.bytes (l.place + at) ≤ l.most
