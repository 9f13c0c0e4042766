use Rattle.standby.proofs.FollowLemmas.{keep_the_same as proved}
use Rattle.standby.proofs.laws.standbys_keep_the_same.Goals as goal

pub returns : goal.returns
returns c = proved
