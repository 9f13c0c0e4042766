use Rattle.plant_core.proofs.ShownPartLemmas.{AreShownTo}
use Rattle.plant_core.proofs.read_shown.read_shown.Given as goal

abbrev pub invariant-loop-number : goal.invariant-loop-number
invariant-loop-number l = AreShownTo l.plant l.bytes l.shown l.number
