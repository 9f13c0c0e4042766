use Rattle.swp08_messages.proofs.RefusedLemmas.{not_both, one_fault}
use Rattle.swp08_messages.proofs.laws.one_reading.Goals as goal

pub returns-clause-not_both : goal.returns-clause-not_both
returns-clause-not_both c = not_both c.args.bytes.now

pub returns-clause-one : goal.returns-clause-one
returns-clause-one c = one_fault c.args.bytes.now
