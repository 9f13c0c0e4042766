use Rattle.history_lock.proofs.Shares.{shared}
use Rattle.history_lock.proofs.laws.seats_share_history.Goals as goal

pub returns : goal.returns
returns g c = shared
