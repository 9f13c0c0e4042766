use Rattle.std.proofs.Common.{Ok, ap}
use Rattle.swp08_messages.proofs.ReadingLemmas.{one_message}
use Rattle.swp08_messages.proofs.message.Message.read.Goals as goal

-- What was read at once is the one message that the DATA spells.
pub returns-in-Some-clause-only_ok : goal.returns-in-Some-clause-only_ok
returns-in-Some-clause-only_ok c = λ message other. ap (λ m. Ok m) (one_message c.args.bytes.now _ message c.in-Some.ensures other)
