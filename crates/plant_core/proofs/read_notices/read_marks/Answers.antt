use Rattle.std.proofs.Common.{arith}
use Rattle.plant_config.specs.Plant.{destinations_of}
use Rattle.change_boards.specs.Notices.{board_of}
use Rattle.plant_core.proofs.PanelPartLemmas.{read_whole}
use Rattle.plant_core.proofs.read_notices.read_marks.Goals as goal

pub returns-clause-board : goal.returns-clause-board
returns-clause-board c =
    read_whole c.args.plant.now c.args.bytes.now c.args.panel (destinations_of c.args.plant.now) (board_of c.read_rest.new.notices c.args.panel) c.requires.whole c.requires.panel c.requires.stays (omega arith) c.read_rest.ensures.read
