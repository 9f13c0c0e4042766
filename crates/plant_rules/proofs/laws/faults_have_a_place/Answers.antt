use Rattle.plant_rules.proofs.DataPlaces.{IsFaultOf-file_of_text}
use Rattle.plant_rules.proofs.laws.faults_have_a_place.Goals as goal

pub returns : goal.returns
returns c text fault is = IsFaultOf-file_of_text text fault is
