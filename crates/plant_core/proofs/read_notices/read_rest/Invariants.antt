use Rattle.std.proofs.Common.{length}
use Rattle.plant_config.specs.Plant.{destinations_of}
use Rattle.change_boards.specs.Notices.{board_of}
use Rattle.change_boards.specs.Laws.{AreBoards}
use Rattle.plant_core.specs.ReadParts.{SameBoardsBut, IsReadTo}
use Rattle.plant_core.proofs.read_notices.read_rest.Given as goal

abbrev pub invariant-loop-number : goal.invariant-loop-number
invariant-loop-number l = record {
  read : IsReadTo l.plant l.bytes l.panel (board_of l.notices l.panel) l.number;
  others : SameBoardsBut l.initial.notices l.notices l.panel;
  boards : AreBoards l.notices (length l.plant.panels) (destinations_of l.plant);
}
