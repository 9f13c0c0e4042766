use Rattle.display_packets.proofs.LampLemmas.{display_poll-lamps}
use Rattle.display_packets.proofs.laws.display_poll_answers_are_lamps.Goals as goal

pub returns : goal.returns
returns c = display_poll-lamps
