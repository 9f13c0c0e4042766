use Rattle.change_boards.proofs.StayBoards.{AreBoards-start, AreBoards-mark, AreBoards-removal, AreBoards-leave}
use Rattle.change_boards.proofs.laws.boards_stay_boards.Goals as goal

pub returns : goal.returns
returns c = record {
  start = AreBoards-start;
  stay = λ boards panels count are. record {
    mark = λ panel dest sort within. AreBoards-mark boards panels count panel dest sort within are;
    removal = λ panel. AreBoards-removal boards panels count panel are;
    leave = λ panel. AreBoards-leave boards panels count panel are;
  };
}
