use Rattle.record_replay.proofs.OutputLemmas.{OnFalse-cut}
use Rattle.record_replay.proofs.output.Output.finish.Goals as goal

pub returns-clause-cut : goal.returns-clause-cut
returns-clause-cut g c = OnFalse-cut _ _ _ _ _ _ _ _ c.if-failed.false c.bytes.ensures.value c.bytes.ensures.most c.take.ensures.all c.take.ensures.part c.take.ensures.count
