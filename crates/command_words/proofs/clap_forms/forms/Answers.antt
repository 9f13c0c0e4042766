use Rattle.std.proofs.Common.{◌+◌, codes, map, take, sym, subst}
use Rattle.std.specs.Prelude.{IfOk, fold}
use Rattle.clap.specs.Words.{App, new_app}
use Rattle.command_words.specs.ClapForms.{app_of_line, quiet_of, with_line}
use Rattle.command_words.specs.ReadTable.{line_as}
use Rattle.command_words.specs.WordsInside.{IsForm, unnamed}
use Rattle.command_words.proofs.ClapFormLemmas.{line_more, line_past}
use Rattle.command_words.proofs.clap_forms.forms.Goals.{then-line, else-line}
use Rattle.command_words.proofs.clap_forms.forms.Goals as goal

pub loop-line-preserved : goal.loop-line-preserved
loop-line-preserved g c =
    let bare = unnamed (new_app (codes "plantctl")) in
    let lines = c.args.lines.now in
    let i = c.loop-line.line-index in
    let line = c.line-item.result in
    let app = fold with_line bare (quiet_of (map line_as (take i lines))) in
    let next = fold with_line bare (quiet_of (map line_as (take (i + 1) lines))) in
    elim c.if-line.branch [
      | then-line w ↦
          subst (λ p. IfOk p (IsForm next)) (sym w.program-is)
          (subst (λ (a : App). IfOk w.with_form-program.result (IsForm a)) (sym (line_more bare lines i line c.loop-line-test.true c.line-item.is w.if-line.true))
          (w.with_form-program.ensures app (app_of_line (line_as line)) c.loop-line.invariant w.clap_form.ensures))
      | else-line w ↦
          subst (λ p. IfOk p (IsForm next)) (sym w.program-is)
          (subst (λ (a : App). IfOk c.loop-line.program (IsForm a)) (sym (line_past bare lines i line c.loop-line-test.true c.line-item.is w.if-line.false)) c.loop-line.invariant)
    ]
