use Rattle.std.proofs.Common.{ℕ, ◌<◌, length, get_or}
use Rattle.plant_config.specs.declared.records.Change.{Change}
use Rattle.plant_core.specs.DueInside.{StayDue, AreWatchersDue}
use Rattle.plant_core.proofs.due.add_moved.Given as goal

abbrev pub invariant-loop-change : goal.invariant-loop-change
invariant-loop-change l = record {
  due : StayDue l.plant l.fn.due l.due;
  moved : (k : ℕ) (d : Change) → k < l.change-index → k < length l.changes → AreWatchersDue l.plant l.due (get_or l.changes k d).dest;
}
