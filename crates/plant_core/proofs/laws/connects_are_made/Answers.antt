use Rattle.plant_core.proofs.Steps.{connect-IsMade, connect-IsNotMade}
use Rattle.plant_core.proofs.laws.connects_are_made.Goals as goal

pub returns-clause-made : goal.returns-clause-made
returns-clause-made c = connect-IsMade

pub returns-clause-not_made : goal.returns-clause-not_made
returns-clause-not_made c = connect-IsNotMade
