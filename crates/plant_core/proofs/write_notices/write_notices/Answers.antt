use Rattle.std.proofs.Common.{◌*◌, ◌/◌, ◌%◌, arith}
use Rattle.change_boards.specs.Notices.{board_of}
use Rattle.plant_core.specs.StateText.{notices_of}
use Rattle.plant_core.proofs.NoticeTextLemmas.{so_many_more}
use Rattle.plant_core.proofs.write_notices.write_notices.Goals as goal

pub returns-clause-text : goal.returns-clause-text
returns-clause-text c =
    so_many_more _ _ _ (notices_of (board_of c.args.notices.now c.args.panel)) (64 * (c.args.count / 64)) (c.args.count % 64) c.args.count (omega arith) c.write_places.ensures.text c.write_rest.ensures.text
