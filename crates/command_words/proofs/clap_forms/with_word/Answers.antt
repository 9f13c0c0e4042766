use Rattle.std.proofs.lemmas.Result.{IfOk-at_ok, IfOk-weaker}
use Rattle.clap.specs.Words.{AddsArg, with_rule}
use Rattle.command_words.specs.WordsInside.{IsForm}
use Rattle.command_words.proofs.FormLemmas.{with_word}
use Rattle.command_words.proofs.clap_forms.with_word.Goals as goal

pub returns : goal.returns
returns c = λ app rule form is.
    let old = c.in_ok-command.command in
    IfOk-weaker c.arg.result (AddsArg old c.args.argument) (IsForm (with_rule app rule))
    (λ command adds. with_word app rule old command c.args.argument (IfOk-at_ok (IsForm app) c.in_ok-command.was form) is adds) c.arg.ensures
