use Rattle.std.proofs.Common.{ℕ, List, length, ap, subst, arith}
use Rattle.change_boards.specs.Board.{Board}
use Rattle.change_boards.specs.Notices.{board_of}
use Rattle.plant_core.specs.ReadParts.{IsBoardIn, SameBoardsBut}
use Rattle.plant_core.proofs.BoardPartLemmas.{boards_none, boards_more, boards_whole}
use Rattle.plant_core.proofs.read_notices.read_notices.Goals as goal

pub loop-panel-init : goal.loop-panel-init
loop-panel-init c = boards_none c.args.plant.now c.args.bytes.now _ c.in_ok-notices.ensures

pub loop-panel-preserved : goal.loop-panel-preserved
loop-panel-preserved c =
    let new : List Board = c.read_panel.new.notices in
    boards_more c.args.plant.now c.args.bytes.now c.loop-panel.notices new c.loop-panel.panel c.loop-panel.invariant
    (subst (λ (panel : ℕ). IsBoardIn c.args.plant.now c.args.bytes.now panel (board_of new panel)) c.of.ensures c.read_panel.ensures.board)
    (subst (λ (panel : ℕ). SameBoardsBut c.loop-panel.notices new panel) c.of.ensures c.read_panel.ensures.others)
    c.read_panel.ensures.boards

pub returns : goal.returns
returns c =
    boards_whole c.args.plant.now c.args.bytes.now c.loop-panel.notices c.loop-panel.panel c.requires.whole c.requires.size
    (omega (arith, ap length c.panels-panel-end.ensures.panels)) c.loop-panel.invariant
