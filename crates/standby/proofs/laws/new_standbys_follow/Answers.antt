use Rattle.standby.proofs.FollowLemmas.{new_follows as proved}
use Rattle.standby.proofs.laws.new_standbys_follow.Goals as goal

pub returns : goal.returns
returns c = proved
