use Rattle.standby.proofs.FollowLemmas.{takeovers_go_on as proved}
use Rattle.standby.proofs.laws.takeovers_go_on.Goals as goal

pub returns : goal.returns
returns c = proved
