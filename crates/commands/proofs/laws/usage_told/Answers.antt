use Rattle.commands.proofs.QuietLemmas.{no_form, usage_told, formless}
use Rattle.commands.proofs.laws.usage_told.Goals as goal

pub returns-clause-no_form : goal.returns-clause-no_form
returns-clause-no_form c = no_form

pub returns-clause-line : goal.returns-clause-line
returns-clause-line c = usage_told

pub returns-clause-always : goal.returns-clause-always
returns-clause-always c = formless
