use Rattle.std.proofs.lemmas.Fmt.{decimal_digit}
use Rattle.record_replay.proofs.output.Output.put_number.Goals as goal

pub returns-then-number-lt10-clause-puts : goal.returns-then-number-lt10-clause-puts
returns-then-number-lt10-clause-puts g c = rw (decimal_digit c.args.number c.if-number-lt10.true) c.put.ensures.puts
