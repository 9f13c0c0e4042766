use Rattle.std.proofs.Common.{refl}
use Rattle.hex.specs.Hex.{encode_upper}
use Rattle.record_replay.proofs.OutputLemmas.{puts_buffered}
use Rattle.record_replay.proofs.output.Output.push_hex.Goals as goal

pub returns-clause-puts : goal.returns-clause-puts
returns-clause-puts g c = puts_buffered g.K.Drain.written g.K.Drain.faults (encode_upper c.args.bytes.now) c.args.self.now _ refl refl refl c.push_hex.ensures.bytes
