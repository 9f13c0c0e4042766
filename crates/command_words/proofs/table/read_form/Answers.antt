use Rattle.std.proofs.Common.{rules, ◌≡◌, ◌∙◌, ◌-◌, ℕ, List, None, Some, map, option_map, length, take, drop, sym, ap, subst}
use Rattle.std.proofs.lemmas.Bool.{false≢true}
use Rattle.command_words.specs.ReadTable.{AsksSo, line_as}
use Rattle.command_words.specs.Table.{AskNone, Asks, line_named}
use Rattle.command_words.specs.Words.{texts}
use Rattle.command_words.proofs.TableLemmas.{asked_so, line_named_as, match_none, none_of_name, none_so}
use Rattle.command_words.proofs.WordsLemmas.{front_text}
use Rattle.command_words.proofs.table.read_form.Goals as goal

pub returns-in_err-line : goal.returns-in_err-line
returns-in_err-line g c =
    let lines = map line_as c.args.lines.now in
    let words = c.args.words.now in
    let first = c.as_str.result.now in
    let behind = texts (take (length words - 1) (drop 1 words)) in
    let words_are = front_text words c.first-item.result first c.in-len1-up.len_at_least c.first-item.is c.as_str.ensures.value in
    let found : c.line_named.result ≡ None = search rules in
    let none : c.from_residual.result ≡ None = search rules in
    let named : line_named lines first ≡ None = sym (line_named_as c.args.lines.now first c.line_named.result c.line_named.ensures) ∙ ap (option_map (λ line. line_as line.now)) found in
    match_none c.from_residual.result (AskNone lines c.args.is_quiet (texts words)) (λ asked. AsksSo lines c.args.is_quiet (texts words) asked) none
    (subst (λ (ws : List (List ℕ)). AskNone lines c.args.is_quiet ws) (sym words_are) (none_of_name lines c.args.is_quiet first behind named))

pub returns-then-not-is_quiet_as : goal.returns-then-not-is_quiet_as
returns-then-not-is_quiet_as g c =
    let lines = map line_as c.args.lines.now in
    let words = c.args.words.now in
    let first = c.as_str.result.now in
    let behind = texts (take (length words - 1) (drop 1 words)) in
    let line = c.in_ok-line.line in
    let words_are = front_text words c.first-item.result first c.in-len1-up.len_at_least c.first-item.is c.as_str.ensures.value in
    let found : c.line_named.result ≡ Some line = search rules in
    let named : line_named lines first ≡ Some (line_as line.now) = sym (line_named_as c.args.lines.now first c.line_named.result c.line_named.ensures) ∙ ap (option_map (λ line. line_as line.now)) found in
    subst (λ (ws : List (List ℕ)). AskNone lines c.args.is_quiet ws) (sym words_are)
    (none_so lines c.args.is_quiet first behind (line_as line.now) named (λ quiet can. false≢true (sym c.if-not-is_quiet_as.true ∙ c.is_quiet_as.ensures.1 quiet)))

pub returns-then-not-can_say : goal.returns-then-not-can_say
returns-then-not-can_say g c =
    let lines = map line_as c.args.lines.now in
    let words = c.args.words.now in
    let first = c.as_str.result.now in
    let behind = texts (take (length words - 1) (drop 1 words)) in
    let line = c.in_ok-line.line in
    let words_are = front_text words c.first-item.result first c.in-len1-up.len_at_least c.first-item.is c.as_str.ensures.value in
    let found : c.line_named.result ≡ Some line = search rules in
    let named : line_named lines first ≡ Some (line_as line.now) = sym (line_named_as c.args.lines.now first c.line_named.result c.line_named.ensures) ∙ ap (option_map (λ line. line_as line.now)) found in
    subst (λ (ws : List (List ℕ)). AskNone lines c.args.is_quiet ws) (sym words_are)
    (none_so lines c.args.is_quiet first behind (line_as line.now) named (λ quiet can. false≢true (sym c.if-not-can_say.true ∙ c.can_say.ensures.1 can)))

pub returns : goal.returns
returns g c =
    let lines = map line_as c.args.lines.now in
    let words = c.args.words.now in
    let first = c.as_str.result.now in
    let behind = texts (take (length words - 1) (drop 1 words)) in
    let line = c.in_ok-line.line in
    let words_are = front_text words c.first-item.result first c.in-len1-up.len_at_least c.first-item.is c.as_str.ensures.value in
    let found : c.line_named.result ≡ Some line = search rules in
    let named : line_named lines first ≡ Some (line_as line.now) = sym (line_named_as c.args.lines.now first c.line_named.result c.line_named.ensures) ∙ ap (option_map (λ line. line_as line.now)) found in
    subst (λ (ws : List (List ℕ)). Asks lines c.args.is_quiet ws line.now.verb behind) (sym words_are)
    (asked_so lines c.args.is_quiet first behind (line_as line.now) named (c.is_quiet_as.ensures.0 c.if-not-is_quiet_as.false) (c.can_say.ensures.0 c.if-not-can_say.false))
