use Rattle.std.proofs.Common.{◌≡◌, ℕ, ◌<◌, true}
use Rattle.due_displays.specs.Due.{AreDueOf, is_due}
use Rattle.due_displays.proofs.due_displays.DueDisplays.new.Given as goal

abbrev pub invariant-loop-number : goal.invariant-loop-number
invariant-loop-number l = record {
  kept : AreDueOf l.plant l.due;
  all : (display : ℕ) → display < l.number → is_due l.plant l.due display ≡ true;
}
