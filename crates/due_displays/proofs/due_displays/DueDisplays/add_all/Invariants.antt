use Rattle.std.proofs.Common.{take}
use Rattle.change_boards.specs.ShownLaws.{is_in_list}
use Rattle.due_displays.specs.Changed.{BecomeDue}
use Rattle.due_displays.proofs.due_displays.DueDisplays.add_all.Given as goal

abbrev pub invariant-loop-display : goal.invariant-loop-display
invariant-loop-display l = BecomeDue l.plant l.fn.self l.self (is_in_list (take l.display-index l.displays))
