use Rattle.change_boards.proofs.ScreenDisplays.{displays_of-HasItsDisplays}
use Rattle.change_boards.proofs.laws.screens_have_their_displays.Goals as goal

pub returns : goal.returns
returns c = displays_of-HasItsDisplays
