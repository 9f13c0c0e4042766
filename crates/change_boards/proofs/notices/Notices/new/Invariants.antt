use Rattle.std.proofs.Common.{◌≡◌, replicate}
use Rattle.change_boards.specs.Board.{blank}
use Rattle.change_boards.proofs.notices.Notices.new.Given as goal

abbrev pub invariant-loop-panel : goal.invariant-loop-panel
invariant-loop-panel l = l.boards.items ≡ replicate l._panel-index blank
