use Rattle.plant_core.specs.Displays.{refreshed}
use Rattle.plant_core.proofs.FinishedLemmas.{finished-told, finished-true}
use Rattle.plant_core.proofs.RefreshLemmas.{IsValid-refreshed}
use Rattle.plant_core.proofs.display_laws.polls_tell_when_all_is_finished.Goals as goal

pub returns-clause-told : goal.returns-clause-told
returns-clause-told c state screen refresh valid = finished-told (refreshed state screen refresh) screen (IsValid-refreshed state screen refresh valid)

pub returns-clause-only : goal.returns-clause-only
returns-clause-only c state screen refresh valid = finished-true (refreshed state screen refresh) screen (IsValid-refreshed state screen refresh valid)
