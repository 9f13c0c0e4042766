use Rattle.std.proofs.Common.{take}
use Rattle.std.specs.Prelude.{IfOk, fold}
use Rattle.clap.specs.Words.{new_app, with_rule}
use Rattle.command_words.specs.ClapForms.{rules_of}
use Rattle.command_words.specs.ReadTable.{line_as}
use Rattle.command_words.specs.WordsInside.{IsForm}
use Rattle.command_words.proofs.clap_forms.clap_form.Given as goal

abbrev pub invariant-loop-index : goal.invariant-loop-index
invariant-loop-index g l =
    IfOk l.form (IsForm (fold with_rule (new_app (line_as l.line).name) (take l.index (rules_of (line_as l.line).form.parts (line_as l.line).words))))
