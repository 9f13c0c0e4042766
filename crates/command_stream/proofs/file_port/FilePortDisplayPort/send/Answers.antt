use Rattle.command_stream.proofs.StreamPortLemmas.{given_after}
use Rattle.command_stream.proofs.file_port.FilePortDisplayPort.send.Goals as goal

pub returns-clause-sent : goal.returns-clause-sent
returns-clause-sent g c = λ sent given.
    given_after g.K.Sink.name g.K.Sink.written g.K.Sink.faults c.send.result c.args.packet.now _ _ sent c.send.ensures.sent c.send.ensures.name given
