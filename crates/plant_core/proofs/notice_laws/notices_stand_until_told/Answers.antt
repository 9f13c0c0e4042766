use Rattle.plant_core.proofs.StandLemmas.{keeps_notice, stands_until_told}
use Rattle.plant_core.proofs.notice_laws.notices_stand_until_told.Goals as goal

pub returns-clause-others : goal.returns-clause-others
returns-clause-others c state panel dest sort request of stands = keeps_notice state panel dest sort stands request of

pub returns-clause-told : goal.returns-clause-told
returns-clause-told c = stands_until_told
