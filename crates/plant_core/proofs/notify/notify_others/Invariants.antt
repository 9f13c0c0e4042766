use Rattle.std.proofs.Common.{◌≡◌, ℕ, ◌<◌, ◌≤◌, length}
use Rattle.change_boards.specs.Notices.{board_of}
use Rattle.plant_core.specs.Noticed.{marked_for_others}
use Rattle.plant_core.proofs.notify.notify_others.Given as goal

-- the boards below the panel are those that are wanted, and the others are as they were
abbrev pub invariant-loop-panel : goal.invariant-loop-panel
invariant-loop-panel l = record {
  count : length l.notices ≡ length l.fn.notices;
  done : (p : ℕ) → p < l.panel → board_of l.notices p ≡ board_of (marked_for_others l.fn.notices l.asker l.dest l.sort) p;
  rest : (p : ℕ) → l.panel ≤ p → board_of l.notices p ≡ board_of l.fn.notices p;
}
