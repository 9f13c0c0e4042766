use Rattle.std.proofs.Common.{rules}
use Rattle.plant_config.specs.Bench.{bench}
use Rattle.plant_tests.proofs.examples.of_change_boards.a_panel_hears_each_change_once.Goals as goal

pub mark-requires-clause-panel : goal.mark-requires-clause-panel
unfolding bench
mark-requires-clause-panel g c = search rules

pub mark-requires-2-clause-panel : goal.mark-requires-2-clause-panel
unfolding bench
mark-requires-2-clause-panel g c = search rules

pub mark-requires-3-clause-panel : goal.mark-requires-3-clause-panel
unfolding bench
mark-requires-3-clause-panel g c = search rules

pub remove_lowest-requires : goal.remove_lowest-requires
unfolding bench
remove_lowest-requires g c = search rules
