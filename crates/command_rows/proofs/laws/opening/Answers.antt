use Rattle.command_rows.proofs.OpenerLemmas.{counts, has_cause, makes_none, lends_none, reads_front}
use Rattle.command_rows.proofs.laws.opening.Goals as goal

pub returns : goal.returns
returns c = record { front = reads_front; cause = has_cause; counts = counts; makes_none = makes_none; lends_none = lends_none }
