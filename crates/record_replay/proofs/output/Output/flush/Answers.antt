use Rattle.std.proofs.Common.{refl}
use Rattle.std.proofs.lemmas.List.{append-nil}
use Rattle.record_replay.proofs.OutputLemmas.{IsPut-taken}
use Rattle.record_replay.proofs.output.Output.flush.Goals as goal

pub returns-clause-puts : goal.returns-clause-puts
returns-clause-puts g c = record {
  same_sink = refl;
  puts = λ before count begun text h. rw (append-nil text, c.clear-2.ensures) (IsPut-taken _ _ _ _ _ _ _ _ _ _ _ _ c.if-self.false c.bytes.ensures.value c.bytes.ensures.most c.take.ensures.all c.take.ensures.part c.take.ensures.count h);
}
