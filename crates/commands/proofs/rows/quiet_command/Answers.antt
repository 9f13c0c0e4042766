use Rattle.std.proofs.Common.{true}
use Rattle.std.specs.Prelude.{MatchOption}
use Rattle.std.proofs.lemmas.Result.{IfOk-weaker}
use Rattle.command_words.specs.ReadTable.{AsksSo}
use Rattle.commands.specs.Rows.{AsksFor, table}
use Rattle.command_words.specs.Table.{AskNone}
use Rattle.command_words.specs.Words.{texts}
use Rattle.commands.proofs.RowsLemmas.{read_for, table_taken}
use Rattle.commands.proofs.rows.quiet_command.Goals as goal

pub read_quiet-requires : goal.read_quiet-requires
read_quiet-requires c = table_taken

pub returns-clause-read : goal.returns-clause-read
returns-clause-read c =
    let words = texts c.args.words.now in
    IfOk-weaker c.read_quiet.result (λ read. MatchOption read (AskNone table true words) (λ asked. AsksSo table true words asked))
    (λ read. MatchOption read (AskNone table true words) (λ asked. AsksFor true words asked.verb (texts asked.behind.now))) (λ read is. read_for true words read is)
    c.read_quiet.ensures.read
