use Rattle.mixer_effects.proofs.LiveLemmas.{switches_cut}
use Rattle.mixer_effects.proofs.laws.a_cut_switch_cuts_its_bus.Goals as goal

pub returns : goal.returns
returns c = switches_cut
