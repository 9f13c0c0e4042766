use Rattle.std.proofs.Common.{◌≤◌}
use Rattle.due_displays.proofs.TableLemmas.{AreAbove}
use Rattle.due_displays.proofs.tables.screen_count.Given as goal

abbrev pub invariant-loop-display : goal.invariant-loop-display
invariant-loop-display l = record {
  above : AreAbove l.plant.displays l.display-index l.count;
  most : l.count ≤ 65536;
}
