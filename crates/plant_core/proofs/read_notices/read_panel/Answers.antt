use Rattle.std.proofs.Common.{List, length, ap, sym, subst, ◌∙◌, arith}
use Rattle.plant_config.specs.Plant.{destinations_of}
use Rattle.change_boards.specs.Board.{Board}
use Rattle.change_boards.specs.Notices.{board_of}
use Rattle.change_boards.specs.Laws.{AreBoards}
use Rattle.change_boards.proofs.StayBoards.{AreBoards-leave}
use Rattle.plant_core.specs.StateFields.{byte_at, place_of_panel}
use Rattle.plant_core.specs.ReadParts.{IsBoardIn}
use Rattle.plant_core.proofs.PanelPartLemmas.{read_left}
use Rattle.plant_core.proofs.read_notices.read_panel.Goals as goal

pub returns-then-byte_at-eq1-clause-board : goal.returns-then-byte_at-eq1-clause-board
returns-then-byte_at-eq1-clause-board c =
    let plant = c.args.plant.now in
    let bytes = c.args.bytes.now in
    let at = c.place_of_panel-place.ensures.place ∙ ap (place_of_panel plant) c.get.ensures in
    let same = c.byte_at.ensures ∙ ap (byte_at bytes) at in
    subst (λ (new : List Board). IsBoardIn plant bytes c.args.panel (board_of new c.args.panel)) (sym c.drop_panel.ensures)
    (read_left plant bytes c.args.notices.now c.args.panel c.requires.whole c.requires.panel (omega (arith, c.requires.panel, c.requires.boards.count)) (omega (arith, same, c.if-byte_at-eq1.true)))

pub returns-then-byte_at-eq1-clause-boards : goal.returns-then-byte_at-eq1-clause-boards
returns-then-byte_at-eq1-clause-boards c =
    let plant = c.args.plant.now in
    subst (λ (new : List Board). AreBoards new (length plant.panels) (destinations_of plant)) (sym c.drop_panel.ensures)
    (AreBoards-leave c.args.notices.now (length plant.panels) (destinations_of plant) c.args.panel c.requires.boards)
