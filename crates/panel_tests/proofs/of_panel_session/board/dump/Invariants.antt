use Rattle.std.proofs.Common.{◌≡◌, ◌≤◌, length, All}
use Rattle.plant_core.specs.Answer.{IsSayable}
use Rattle.panel_tests.proofs.of_panel_session.board.dump.Given as goal

-- So many destinations were told.
abbrev pub invariant-loop-dest : goal.invariant-loop-dest
invariant-loop-dest l = record {
  sayable : All IsSayable l.out.items;
  told : length l.out.items ≤ l.dest;
  places : l.out.places ≡ l.fn.out.places;
}
