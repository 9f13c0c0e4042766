use Rattle.mixer_effects.proofs.LiveLemmas.{roots_are_seen}
use Rattle.mixer_effects.proofs.laws.sources_at_roots_are_seen.Goals as goal

pub returns : goal.returns
returns c = roots_are_seen
