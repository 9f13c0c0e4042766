use Rattle.plant_core.proofs.NoticeLemmas.{source-heard, owner-heard, go-heard}
use Rattle.plant_core.proofs.QuietLemmas.{told-quiet}
use Rattle.plant_core.proofs.notice_laws.changes_are_noticed.Goals as goal

pub returns-clause-sources : goal.returns-clause-sources
returns-clause-sources c = source-heard

pub returns-clause-owners : goal.returns-clause-owners
returns-clause-owners c = owner-heard

pub returns-clause-goes : goal.returns-clause-goes
returns-clause-goes c = go-heard

pub returns-clause-quiet : goal.returns-clause-quiet
returns-clause-quiet c = told-quiet
