use Rattle.std.proofs.Common.{codes, map, take}
use Rattle.std.specs.Prelude.{IfOk, fold}
use Rattle.clap.specs.Words.{new_app}
use Rattle.command_words.specs.ClapForms.{quiet_of, with_line}
use Rattle.command_words.specs.ReadTable.{line_as}
use Rattle.command_words.specs.WordsInside.{IsForm, unnamed}
use Rattle.command_words.proofs.clap_forms.forms.Given as goal

abbrev pub invariant-loop-line : goal.invariant-loop-line
invariant-loop-line g l = IfOk l.program (IsForm (fold with_line (unnamed (new_app (codes "plantctl"))) (quiet_of (map line_as (take l.line-index l.lines)))))
