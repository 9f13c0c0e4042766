use Rattle.std.proofs.Common.{◌≡◌, ◌≢◌, ◌⊎◌, ℕ, true, false, not, inl, inr, sym, ap, subst, ◌∙◌}
use Rattle.std.proofs.lemmas.Bool.{cases_eq}
use Rattle.std.specs.Option.{is_some}
use Rattle.tap_lists.specs.Lists.{Lists, list_of, unlinked}
use Rattle.tally.specs.Marks.{is_lit}
use Rattle.tally.specs.MarksInside.{Turns}
use Rattle.tally.proofs.LitLemmas.{lit_unlinked, lit_under, turns_toggled, turns_same, some_first}
use Rattle.tally.proofs.marks.take_lit.Goals as goal

-- what stays lit beside an origin that does
same_lit : (old new : Lists) (origin other : ℕ) → is_lit old origin ≡ is_lit new origin → (other ≢ origin → is_lit new other ≡ is_lit old other) → is_lit new other ≡ is_lit old other
same_lit old new origin other here others = by (cases_eq other origin)
  where
    by : (other ≡ origin) ⊎ (other ≢ origin) → is_lit new other ≡ is_lit old other
    by (inl same) = ap (is_lit new) same ∙ sym here ∙ ap (is_lit old) (sym same)
    by (inr apart) = others apart

pub returns-then-not-is_lit-clause-others : goal.returns-then-not-is_lit-clause-others
returns-then-not-is_lit-clause-others g c = λ other apart. ap (λ (lists : Lists). is_lit lists other) c.unlink.ensures ∙ lit_unlinked c.args.lit.now (unlinked c.args.lit.now c.args.dest) c.args.origin c.args.dest other c.stand_once.ensures c.requires.under (c.unlinks_remove.ensures c.args.lit.now c.args.dest) apart

pub returns-else-not-is_lit-clause-others : goal.returns-else-not-is_lit-clause-others
returns-else-not-is_lit-clause-others g c = λ other apart. ap (λ (lists : Lists). is_lit lists other) c.unlink.ensures ∙ lit_unlinked c.args.lit.now (unlinked c.args.lit.now c.args.dest) c.args.origin c.args.dest other c.stand_once.ensures c.requires.under (c.unlinks_remove.ensures c.args.lit.now c.args.dest) apart

pub returns-then-not-is_lit-clause-turns : goal.returns-then-not-is_lit-clause-turns
returns-then-not-is_lit-clause-turns g c =
    let old = c.args.lit.now in
    let origin = c.args.origin in
    let new = unlinked old c.args.dest in
    let takes = c.unlinks_remove.ensures old c.args.dest in
    let was : is_lit old origin ≡ true = lit_under old origin c.args.dest c.requires.under in
    let dark : is_lit c.unlink.new.self origin ≡ false = sym (some_first (list_of c.unlink.new.self origin)) ∙ ap is_some (sym c.first.ensures.first) ∙ sym c.is_some-is_lit.ensures ∙ c.if-not-is_lit.true in
    let here : is_lit new origin ≡ not (is_lit old origin) = ap (λ (lists : Lists). is_lit lists origin) (sym c.unlink.ensures) ∙ dark ∙ sym (ap not was) in
    subst (λ (new : Lists). Turns old new c.args.turned.now c.toggle.new.numbers) (sym c.unlink.ensures)
    (turns_toggled old new c.args.turned.now c.toggle.new.numbers origin c.toggle.ensures here (λ other apart. lit_unlinked old new origin c.args.dest other c.stand_once.ensures c.requires.under takes apart))

pub returns-else-not-is_lit-clause-turns : goal.returns-else-not-is_lit-clause-turns
returns-else-not-is_lit-clause-turns g c =
    let old = c.args.lit.now in
    let origin = c.args.origin in
    let new = unlinked old c.args.dest in
    let takes = c.unlinks_remove.ensures old c.args.dest in
    let was : is_lit old origin ≡ true = lit_under old origin c.args.dest c.requires.under in
    let lit : is_lit c.unlink.new.self origin ≡ true = sym (some_first (list_of c.unlink.new.self origin)) ∙ ap is_some (sym c.first.ensures.first) ∙ sym c.is_some-is_lit.ensures ∙ c.if-not-is_lit.false in
    let here : is_lit old origin ≡ is_lit new origin = was ∙ sym lit ∙ ap (λ (lists : Lists). is_lit lists origin) c.unlink.ensures in
    subst (λ (new : Lists). Turns old new c.args.turned.now c.args.turned.now) (sym c.unlink.ensures)
    (turns_same old new c.args.turned.now (λ other. same_lit old new origin other here (λ apart. lit_unlinked old new origin c.args.dest other c.stand_once.ensures c.requires.under takes apart)))
