use Rattle.swp08_messages.proofs.SpelledLemmas.{Spells-text}
use Rattle.swp08_messages.proofs.ReadingLemmas.{one_message, one_text}
use Rattle.swp08_messages.proofs.laws.one_message.Goals as goal

pub returns-clause-own : goal.returns-clause-own
returns-clause-own c = Spells-text

pub returns-clause-one : goal.returns-clause-one
returns-clause-one c = one_message

pub returns-clause-texts : goal.returns-clause-texts
returns-clause-texts c = λ m n in_m in_n differ same. differ (one_text m n in_m in_n same)
