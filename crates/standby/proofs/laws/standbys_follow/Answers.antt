use Rattle.standby.proofs.FollowLemmas.{standbys_follow as proved}
use Rattle.standby.proofs.laws.standbys_follow.Goals as goal

pub returns : goal.returns
returns c = proved
