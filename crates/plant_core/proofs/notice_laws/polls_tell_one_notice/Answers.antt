use Rattle.plant_core.proofs.TellLemmas.{poll-IsTold, poll-nothing}
use Rattle.plant_core.proofs.notice_laws.polls_tell_one_notice.Goals as goal

pub returns-clause-told : goal.returns-clause-told
returns-clause-told c = poll-IsTold

pub returns-clause-nothing : goal.returns-clause-nothing
returns-clause-nothing c = poll-nothing
