use Rattle.dle_framing.proofs.FrameLemmas.{one_frame}
use Rattle.dle_framing.proofs.laws.one_frame.Goals as goal

pub returns : goal.returns
returns c = one_frame
