use Rattle.std.proofs.Common.{◌∙◌}
use Rattle.change_boards.proofs.NextLemmas.{next-None}
use Rattle.change_boards.proofs.panel_board.PanelBoard.remove_lowest.Goals as goal

pub returns-in_err-dest-clause-none : goal.returns-in_err-dest-clause-none
returns-in_err-dest-clause-none c = next-None c.args.self.now c.from_residual.result (c.from_residual.ensures ∙ c.in_err-dest.ensures.next)

pub returns-clause-none : goal.returns-clause-none
returns-clause-none c = next-None c.args.self.now _ c.in_ok-dest.ensures.next
