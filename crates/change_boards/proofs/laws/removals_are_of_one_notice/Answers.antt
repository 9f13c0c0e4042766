use Rattle.change_boards.proofs.OneNotice.{with_removal-Removes}
use Rattle.change_boards.proofs.laws.removals_are_of_one_notice.Goals as goal

pub returns : goal.returns
returns c = with_removal-Removes
