use Rattle.tsl_stream.proofs.PortLemmas.{unwritten_has}
use Rattle.tsl_stream.proofs.port.StreamPort.new.Goals as goal

pub returns-in-Ok-clause-none : goal.returns-in-Ok-clause-none
returns-in-Ok-clause-none g c = λ unwritten. unwritten_has (g.K.Sink.written c.args.sink) (g.K.Sink.faults c.args.sink) unwritten
