use Rattle.commands.proofs.QuietLemmas.{replay_shows}
use Rattle.commands.proofs.laws.history_shown.Goals as goal

pub returns : goal.returns
returns c = replay_shows c.replays.ensures.shown
