use Rattle.std.proofs.Common.{◌≡◌, length, drop}
use Rattle.change_boards.specs.Shown.{with_forgotten}
use Rattle.change_boards.proofs.shown.Shown.forget.Given as goal

abbrev pub invariant-loop-display : goal.invariant-loop-display
invariant-loop-display l = (length l.self-inside.values.items ≡ length l.initial.self-inside.values.items) × (with_forgotten l.self-inside.values.items (drop l.display-index l.displays) ≡ with_forgotten l.initial.self-inside.values.items l.displays)
