use Rattle.std.proofs.lemmas.Result.{IfOk-at_ok, IfOk-weaker}
use Rattle.clap.specs.Words.{AddsSubcommand, with_subcommand}
use Rattle.command_words.specs.WordsInside.{IsForm}
use Rattle.command_words.proofs.FormLemmas.{with_form}
use Rattle.command_words.proofs.clap_forms.with_form.Goals as goal

pub returns : goal.returns
returns c = λ app own others form.
    let old = c.in_ok-command.command in
    let more = c.in_ok-more.more in
    IfOk-weaker c.subcommand.result (AddsSubcommand old more) (IsForm (with_subcommand app own.top))
    (λ command adds. with_form app own old command more (IfOk-at_ok (IsForm app) c.in_ok-command.was others) (IfOk-at_ok (IsForm own) c.in_ok-more.was form) adds) c.subcommand.ensures
