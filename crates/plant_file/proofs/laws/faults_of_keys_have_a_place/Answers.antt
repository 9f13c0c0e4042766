use Rattle.plant_file.proofs.DocumentPlaces.{IsFaultOf-data_of_text}
use Rattle.plant_file.proofs.laws.faults_of_keys_have_a_place.Goals as goal

pub returns : goal.returns
returns c text fault is = IsFaultOf-data_of_text text fault is
