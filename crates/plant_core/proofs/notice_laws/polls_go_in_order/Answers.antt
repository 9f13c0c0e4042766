use Rattle.plant_core.proofs.PollLemmas.{polls-answers, polls-left}
use Rattle.plant_core.proofs.notice_laws.polls_go_in_order.Goals as goal

pub returns-clause-answers : goal.returns-clause-answers
returns-clause-answers c state panel numbers = polls-answers numbers state panel

pub returns-clause-left : goal.returns-clause-left
returns-clause-left c state panel numbers = polls-left numbers state panel
