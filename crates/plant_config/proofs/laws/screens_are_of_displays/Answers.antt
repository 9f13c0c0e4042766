use Rattle.plant_config.proofs.ScreenLemmas.{screens_are_of_displays}
use Rattle.plant_config.proofs.laws.screens_are_of_displays.Goals as goal

pub returns : goal.returns
returns c = screens_are_of_displays
