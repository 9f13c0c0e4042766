use Rattle.plant_core.proofs.SalvoLemmas.{go-whole}
use Rattle.plant_core.proofs.salvo_laws.goes_are_whole.Goals as goal

pub returns : goal.returns
returns c = go-whole
