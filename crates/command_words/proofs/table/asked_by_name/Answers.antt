use Rattle.std.proofs.Common.{rules, ◌≡◌, ◌∙◌, None, Some, map, option_map, sym, ap, refl}
use Rattle.std.proofs.lemmas.Option.{none-some, same_Some}
use Rattle.command_words.specs.ReadTable.{line_as, line_of_name}
use Rattle.command_words.specs.Table.{Line}
use Rattle.command_words.proofs.TableLemmas.{line_named_as}
use Rattle.command_words.proofs.table.asked_by_name.Goals as goal

pub returns-in_err-name : goal.returns-in_err-name
returns-in_err-name g c = λ line is.
    let none : c.args.name ≡ None = search rules in
    absurd (none-some line (sym (ap (line_of_name (map line_as c.args.lines.now)) none) ∙ is))

pub returns-in_err-line : goal.returns-in_err-line
returns-in_err-line g c = λ line is.
    let name = c.in_ok-name.name in
    let given : c.args.name ≡ Some name = search rules in
    let found : c.line_named.result ≡ None = search rules in
    absurd
    (none-some line (sym (ap (option_map (λ line. line_as line.now)) found) ∙ line_named_as c.args.lines.now name.now c.line_named.result c.line_named.ensures
    ∙ sym (ap (line_of_name (map line_as c.args.lines.now)) given) ∙ is))

pub returns : goal.returns
returns g c = λ line is.
    let name = c.in_ok-name.name in
    let given : c.args.name ≡ Some name = search rules in
    let found : c.line_named.result ≡ Some c.in_ok-line.line = search rules in
    let same = same_Some (line_as c.in_ok-line.line.now) line
    (sym (ap (option_map (λ line. line_as line.now)) found) ∙ line_named_as c.args.lines.now name.now c.line_named.result c.line_named.ensures
    ∙ sym (ap (line_of_name (map line_as c.args.lines.now)) given) ∙ is) in
    (ap (λ (l : Line _). l.verb) same, refl)
