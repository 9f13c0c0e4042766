use Rattle.std.proofs.Common.{◌≡◌, false, not, ◌||◌, refl, sym, ap, subst, ◌∙◌, eq-eqb}
use Rattle.std.proofs.lemmas.Bool.{ne_eqb}
use Rattle.std.specs.Option.{is_some}
use Rattle.tap_lists.specs.Lists.{Lists, list_of, linked}
use Rattle.tally.specs.Marks.{is_lit}
use Rattle.tally.specs.MarksInside.{Turns}
use Rattle.tally.proofs.LitLemmas.{lit_linked, turns_toggled, some_first}
use Rattle.tally.proofs.marks.put_lit.Goals as goal

pub returns-then-not-was_lit-clause-turns : goal.returns-then-not-was_lit-clause-turns
returns-then-not-was_lit-clause-turns g c =
    let old = c.args.lit.now in
    let origin = c.args.origin in
    let new = linked old origin c.args.dest in
    let puts = c.links_insert_first.ensures old origin c.args.dest c.requires.head in
    let dark : is_lit old origin ≡ false = sym (some_first (list_of old origin)) ∙ ap is_some (sym c.first.ensures.first) ∙ sym c.is_some-was_lit.ensures ∙ c.if-not-was_lit.true in
    let here : is_lit new origin ≡ not (is_lit old origin) =
    lit_linked old new origin c.args.dest origin puts ∙ ap (λ b. b || is_lit old origin) (eq-eqb origin origin refl) ∙ sym (ap not dark) in
    subst (λ (new : Lists). Turns old new c.args.turned.now c.toggle.new.numbers) (sym c.link.ensures)
    (turns_toggled old new c.args.turned.now c.toggle.new.numbers origin c.toggle.ensures here (λ other apart. lit_linked old new origin c.args.dest other puts ∙ ap (λ b. b || is_lit old other) (ne_eqb other origin apart)))
