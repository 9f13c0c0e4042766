use Rattle.standby.proofs.TableLemmas.{answers_are_exact as proved}
use Rattle.standby.proofs.laws.answers_are_exact.Goals as goal

pub returns : goal.returns
returns c = proved
