use Rattle.command_stream.proofs.StreamPortLemmas.{given_same}
use Rattle.command_stream.proofs.file_port.FilePortDisplayPort.pause.Goals as goal

pub returns-clause-sent : goal.returns-clause-sent
returns-clause-sent g c = λ sent given. given_same g.K.Sink.name g.K.Sink.written g.K.Sink.faults _ _ sent c.pause.ensures.same given
