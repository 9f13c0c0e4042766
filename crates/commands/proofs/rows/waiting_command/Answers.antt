use Rattle.std.proofs.Common.{false}
use Rattle.command_words.specs.Words.{texts}
use Rattle.commands.proofs.RowsLemmas.{read_for}
use Rattle.commands.proofs.rows.waiting_command.Goals as goal

pub returns : goal.returns
returns c = read_for false (texts c.args.words.now) c.read_waiting.result c.read_waiting.ensures
