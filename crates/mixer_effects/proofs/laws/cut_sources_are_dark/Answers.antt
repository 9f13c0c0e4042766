use Rattle.mixer_effects.proofs.LiveLemmas.{cut_is_dark}
use Rattle.mixer_effects.proofs.laws.cut_sources_are_dark.Goals as goal

pub returns : goal.returns
returns c = cut_is_dark
