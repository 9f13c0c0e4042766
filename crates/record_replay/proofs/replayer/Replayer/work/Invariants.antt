use Rattle.std.proofs.Common.{length}
use Rattle.record_replay.specs.OutputInside.{PutsLines}
use Rattle.record_replay.specs.PortInside.{SendsAll}
use Rattle.record_replay.specs.ReplayerInside.{PlaysOn}
use Rattle.record_replay.proofs.replayer.Replayer.work.Given as goal

abbrev pub invariant-loop-out : goal.invariant-loop-out
invariant-loop-out g l =
    PlaysOn l.fn.self.plant.now l.fn.script l.rest l.fn.self l.self
    (λ earlier text packets. PutsLines g.K.Drain.written g.K.Drain.faults earlier text l.fn.out l.out × SendsAll g.P.DisplayPort.was_sent g.P.DisplayPort.faults packets l.fn.port l.port)

abbrev pub decreases-loop-out : goal.decreases-loop-out
decreases-loop-out g l = length l.rest
