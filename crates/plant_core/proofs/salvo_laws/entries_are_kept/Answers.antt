use Rattle.plant_core.proofs.SalvoLemmas.{store-IsStored, store-not, entry-told, entry-none}
use Rattle.plant_core.proofs.salvo_laws.entries_are_kept.Goals as goal

pub returns-clause-stored : goal.returns-clause-stored
returns-clause-stored c = store-IsStored

pub returns-clause-others : goal.returns-clause-others
returns-clause-others c = store-not

pub returns-clause-told : goal.returns-clause-told
returns-clause-told c = entry-told

pub returns-clause-none : goal.returns-clause-none
returns-clause-none c = entry-none
