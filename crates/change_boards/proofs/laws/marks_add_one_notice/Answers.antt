use Rattle.change_boards.proofs.OneNotice.{with_mark-Adds, with_mark-left}
use Rattle.change_boards.proofs.laws.marks_add_one_notice.Goals as goal

pub returns : goal.returns
returns c boards = record { adds = with_mark-Adds boards; left = with_mark-left boards }
