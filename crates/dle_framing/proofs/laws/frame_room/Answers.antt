use Rattle.dle_framing.proofs.FrameLemmas.{length-frame-le}
use Rattle.dle_framing.proofs.laws.frame_room.Goals as goal

pub returns-clause-within : goal.returns-clause-within
returns-clause-within c = length-frame-le
