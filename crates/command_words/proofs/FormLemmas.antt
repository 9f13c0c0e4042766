-- How the forms come together for clap.
use Rattle.std.proofs.Common.{◌∙◌, ◌||◌, ap, ap₂}
use Rattle.clap.specs.Words.{AddsArg, AddsSubcommand, App, Rule, with_rule, with_subcommand}
use Rattle.clap.specs.declared.builder.arg.Arg.{Arg}
use Rattle.clap.specs.declared.builder.command.Command.{Command}
use Rattle.command_words.specs.WordsInside.{IsArg, IsForm}

pub with_word : (app : App) (rule : Rule) (old new : Command) (argument : Arg) → IsForm app old → IsArg rule argument → AddsArg old argument new → IsForm (with_rule app rule) new
with_word app rule old new argument form is adds = (adds.shape is.1 ∙ ap₂ with_rule form.0 is.0, adds.globals ∙ ap₂ ◌||◌ form.1 is.1)

pub with_form : (app own : App) (old new sub : Command) → IsForm app old → IsForm own sub → AddsSubcommand old sub new → IsForm (with_subcommand app own.top) new
with_form app own old new sub form is adds = (adds.shape is.1 ∙ ap₂ with_subcommand form.0 (ap (λ (a : App). a.top) is.0), adds.globals ∙ ap₂ ◌||◌ form.1 is.1)
