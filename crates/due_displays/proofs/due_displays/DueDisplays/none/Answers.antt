use Rattle.due_displays.proofs.DueLemmas.{start_due}
use Rattle.due_displays.proofs.due_displays.DueDisplays.none.Goals as goal

pub returns : goal.returns
returns c =
    start_due c.args.plant.now c.args.screens.now _ c.screen_count-count.result c.requires.plant c.requires.screens c.screen_count-count.ensures.above c.screen_count-count.ensures.most c.in_ok-new.ensures c.in_ok-positions_of.ensures c.in_ok-rows_of.ensures c.in_ok-new-2.ensures
