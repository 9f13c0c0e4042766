use Rattle.plant_core.proofs.OneText.{one_text}
use Rattle.plant_core.proofs.state_laws.texts_tell_states.Goals as goal

pub returns : goal.returns
returns c = one_text
