use Rattle.std.proofs.Common.{ap, length}
use Rattle.plant_core.proofs.StateTextLemmas.{counts_behind}
use Rattle.plant_core.proofs.write_state.write_counts.Goals as goal

pub returns-clause-text : goal.returns-clause-text
returns-clause-text c =
    counts_behind c.args.plant.now _ _ _ _ _ _ _ _ _ c.source_count.ensures.count c.destination_count.ensures.count (ap length c.panels.ensures.panels) (ap length c.displays.ensures.displays) c.write_number.ensures.text c.write_number-2.ensures.text c.write_number-3.ensures.text c.write_number-4.ensures.text
