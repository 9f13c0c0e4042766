use Rattle.mixer_effects.proofs.LiveLemmas.{live_is_least}
use Rattle.mixer_effects.proofs.laws.live_is_least.Goals as goal

pub returns : goal.returns
returns c = live_is_least
