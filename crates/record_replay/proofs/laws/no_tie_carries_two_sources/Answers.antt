use Rattle.record_replay.proofs.TiedReplayLemmas.{no_two_sources}
use Rattle.record_replay.proofs.laws.no_tie_carries_two_sources.Goals as goal

pub returns : goal.returns
returns c = no_two_sources
