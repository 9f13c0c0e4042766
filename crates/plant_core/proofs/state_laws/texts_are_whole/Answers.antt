use Rattle.plant_core.proofs.WholeText.{whole_text}
use Rattle.plant_core.proofs.state_laws.texts_are_whole.Goals as goal

pub returns : goal.returns
returns c = whole_text
