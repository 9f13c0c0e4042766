use Rattle.change_boards.proofs.InOrder.{takes_in_order}
use Rattle.change_boards.proofs.laws.removals_go_in_order.Goals as goal

pub returns : goal.returns
returns c board count takes below = takes_in_order takes board count below
