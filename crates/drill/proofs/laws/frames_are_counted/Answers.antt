use Rattle.drill.proofs.CountLemmas.{frames_are_counted}
use Rattle.drill.proofs.laws.frames_are_counted.Goals as goal

pub returns : goal.returns
returns c = frames_are_counted
