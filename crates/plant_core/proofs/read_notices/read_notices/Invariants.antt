use Rattle.plant_core.proofs.BoardPartLemmas.{AreReadTo}
use Rattle.plant_core.proofs.read_notices.read_notices.Given as goal

abbrev pub invariant-loop-panel : goal.invariant-loop-panel
invariant-loop-panel l = AreReadTo l.plant l.bytes l.notices l.panel
