use Rattle.panel_session.proofs.session.asked.asked_by_good.Goals as goal

pub returns-in_default-clause-asks : goal.returns-in_default-clause-asks
returns-in_default-clause-asks c = λ message spells. let read = c.read.ensures.only_ok message spells in cc
