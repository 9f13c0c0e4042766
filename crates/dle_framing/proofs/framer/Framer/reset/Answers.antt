use Rattle.dle_framing.specs.Framer.{StandsFor}
use Rattle.dle_framing.proofs.StepLemmas.{rest-nil}
use Rattle.dle_framing.proofs.framer.Framer.reset.Goals as goal

pub returns : goal.returns
unfolding StandsFor
returns c = rest-nil
