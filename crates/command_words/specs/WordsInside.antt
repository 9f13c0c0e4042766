-- What clap is told of words.
use Rattle.std.specs.Prelude.{◌≡◌, true, false, Some}
use Rattle.clap.specs.Words.{App, Rule, Text, new_rule, app_of, rule_of}
use Rattle.clap.specs.declared.builder.arg.Arg.{Arg}
use Rattle.clap.specs.declared.builder.command.Command as clap
use Rattle.clap.specs.declared.builder.command.Command.TheViews.{out-Command}
use Rattle.clap.specs.Simple.{on_top}

-- a word, several of them, and a program whose words don't begin with its name
abbrev pub word : Text → Rule
word name = record (new_rule name) { required = true }

abbrev pub several : Rule → Rule
several rule = record rule { range = Some (record { start_inclusive = 1; end_inclusive = 200 }) }

abbrev pub unnamed : App → App
unnamed = on_top (λ s. record s { no_binary_name = true })

-- the code tells it of this argument, or command
abbrev pub IsArg : Rule → Arg → Type 0
IsArg rule argument = (rule_of argument ≡ rule) × (argument.global ≡ false)

abbrev pub IsForm : App → clap.Command → Type 0
IsForm app command = (app_of command ≡ app) × ((out-Command command).has_globals ≡ false)
