use Rattle.std.proofs.Common.{◌∙◌, map, true}
use Rattle.command_words.specs.ReadTable.{line_as}
use Rattle.command_words.specs.Words.{texts}
use Rattle.command_words.proofs.TableLemmas.{asked_again, named_by}
use Rattle.command_words.proofs.table.read_quiet.Goals as goal

pub returns-in-Ok-clause-read : goal.returns-in-Ok-clause-read
returns-in-Ok-clause-read g c =
    let lines = map line_as c.args.lines.now in
    let one = c.in-Some.ensures.one in
    asked_again lines true (texts c.args.words.now) c.in-Some.asked c.in-Some.ensures c.asked_by_name.result
    (c.asked_by_name.ensures one.line (named_by lines c.subcommand_name.result one.line (c.subcommand_name.ensures ∙ c.in-Ok.ensures one) one.ask.stands))
