use Rattle.mixer_effects.proofs.LiveLemmas.{live_is_least}
use Rattle.tally.proofs.LeftLemmas.{left_live}
use Rattle.tally.proofs.laws.what_is_left_is_live.Goals as goal

pub returns : goal.returns
returns c = λ plant old new roots is_left are. left_live plant old new roots is_left (live_is_least plant old roots) (live_is_least plant new roots) are
