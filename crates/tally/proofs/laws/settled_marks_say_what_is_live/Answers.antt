use Rattle.mixer_effects.proofs.LiveLemmas.{live_is_least}
use Rattle.tally.proofs.MarkLemmas.{settled_say}
use Rattle.tally.proofs.laws.settled_marks_say_what_is_live.Goals as goal

pub returns : goal.returns
returns c = λ plant points roots marks are. settled_say plant points roots (live_is_least plant points roots) marks are.kept are
