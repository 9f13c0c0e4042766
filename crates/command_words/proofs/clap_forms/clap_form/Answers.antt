use Rattle.std.proofs.Common.{List, ℕ, [], length, take, get_or, sym, subst, arith}
use Rattle.std.proofs.lemmas.List.{length-map}
use Rattle.std.specs.Borrow.{Bor}
use Rattle.std.specs.Prelude.{IfOk, fold, nat_lt}
use Rattle.clap.specs.Words.{App, new_app, with_rule}
use Rattle.command_words.specs.ClapForms.{rule_for, rules_of}
use Rattle.command_words.specs.ReadTable.{line_as}
use Rattle.command_words.specs.WordsInside.{IsForm}
use Rattle.command_words.proofs.ClapFormLemmas.{rule_next, rules_all}
use Rattle.command_words.proofs.clap_forms.clap_form.Goals as goal

pub loop-index-preserved : goal.loop-index-preserved
loop-index-preserved g c =
    let given = c.args.line.now in
    let line = line_as given in
    let i = c.loop-index.index in
    let d : Bor (List ℕ) = record { ref_ptr = (0, 0); now = [] } in
    subst (λ (a : App). IfOk c.with_word-form.result (IsForm a)) (sym (rule_next (new_app line.name) given.parts.now given.words.now i d c.loop-index-test.true))
    (c.with_word-form.ensures (fold with_rule (new_app line.name) (take i (rules_of line.form.parts line.words)))
    (rule_for (nat_lt i (length given.parts.now)) (get_or given.words.now i d).now) c.loop-index.invariant c.argument.ensures)

pub returns : goal.returns
returns g c =
    let line = line_as c.args.line.now in
    subst (λ (a : App). IfOk c.loop-index.form (IsForm a))
    (rules_all (new_app line.name) line.form.parts line.words c.loop-index.index
    (omega (arith, c.loop-index-test.false, length-map c.args.line.now.words.now (λ (w : Bor (List ℕ)). w.now)))) c.loop-index.invariant
