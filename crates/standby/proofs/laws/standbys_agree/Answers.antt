use Rattle.standby.proofs.FollowLemmas.{standbys_agree as proved}
use Rattle.standby.proofs.laws.standbys_agree.Goals as goal

pub returns : goal.returns
returns c = proved
