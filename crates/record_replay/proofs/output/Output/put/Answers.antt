use Rattle.std.proofs.Common.{[], refl}
use Rattle.record_replay.specs.OutputLaws.{Puts-more}
use Rattle.record_replay.proofs.OutputLemmas.{puts_buffered}
use Rattle.record_replay.proofs.output.Output.put.Goals as goal

pub returns-clause-puts : goal.returns-clause-puts
returns-clause-puts g c =
    Puts-more g.K.Drain.written g.K.Drain.faults [] c.args.bytes.now c.args.self.now c.make_room.new.self _ c.make_room.ensures.puts
    (puts_buffered g.K.Drain.written g.K.Drain.faults c.args.bytes.now c.make_room.new.self _ refl refl refl c.push_all.ensures.bytes)
