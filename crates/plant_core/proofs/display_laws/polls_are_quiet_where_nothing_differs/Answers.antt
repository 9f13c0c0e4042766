use Rattle.plant_core.specs.Displays.{refreshed}
use Rattle.plant_core.proofs.LampLemmas.{quiet-taken, taken-quiet, taken-lit}
use Rattle.plant_core.proofs.RefreshLemmas.{IsValid-refreshed}
use Rattle.plant_core.proofs.display_laws.polls_are_quiet_where_nothing_differs.Goals as goal

pub returns-clause-quiet : goal.returns-clause-quiet
returns-clause-quiet c state screen refresh = (quiet-taken (refreshed state screen refresh) screen, taken-quiet (refreshed state screen refresh) screen)

pub returns-clause-lamps : goal.returns-clause-lamps
returns-clause-lamps c state screen refresh valid = taken-lit (refreshed state screen refresh) screen (IsValid-refreshed state screen refresh valid)
