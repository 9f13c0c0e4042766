use Rattle.std.proofs.Common.{◌≡◌, ◌≤◌, length, drop}
use Rattle.plant_file.specs.ReadingInside.{tables, entries_answer, entries_going}
use Rattle.plant_file.proofs.read.section.read_entries.Given as goal

abbrev pub invariant-loop-item : goal.invariant-loop-item
invariant-loop-item g l = record {
  counted : length l.entries.items ≤ l.item-index;
  going : entries_answer (g.T.ReadEntry.said l.section) (g.T.ReadEntry.keys l.section) (tables l.items)
      ≡ entries_going (g.T.ReadEntry.said l.section) (g.T.ReadEntry.keys l.section) l.entries.items (drop l.item-index l.items);
}
