use Rattle.plant_core.proofs.ValueLemmas.{values-behind, moves-nothing, values-left}
use Rattle.plant_core.proofs.display_laws.only_changes_move_lamps.Goals as goal

pub returns-clause-values : goal.returns-clause-values
returns-clause-values c = values-behind

pub returns-clause-sources : goal.returns-clause-sources
returns-clause-sources c = moves-nothing

pub returns-clause-others : goal.returns-clause-others
returns-clause-others c = values-left
