use Rattle.std.proofs.Common.{◌≢◌, ◌<◌, ap, sym, ◌∙◌, arith, inl, inr, length}
use Rattle.std.specs.Prelude.{Some}
use Rattle.std.proofs.lemmas.Bool.{cases_lt, eqb-true, eqb-false}
use Rattle.trace_lines.proofs.DecimalLemmas.{number_found, spelled, no_number-zero}
use Rattle.trace_lines.proofs.reading.number.number_of.Goals as goal

pub returns-then-is_empty-clause-only : goal.returns-then-is_empty-clause-only
returns-then-is_empty-clause-only c = λ number is.
    let empty = eqb-true (length c.args.text.now) 0 (sym c.is_empty.ensures ∙ c.if-is_empty.true) in
    let some = (spelled c.args.text.now number is).some in
    absurd (omega (arith, some, empty))

pub returns-then-has_spare_zero-clause-only : goal.returns-then-has_spare_zero-clause-only
returns-then-has_spare_zero-clause-only c = λ number is. let zero = c.if-has_spare_zero.ensures.yes in absurd (no_number-zero c.args.text.now zero.zero_first zero.goes_on number is)

pub returns-then-value-le-MAX_NUMBER-clause-found : goal.returns-then-value-le-MAX_NUMBER-clause-found
returns-then-value-le-MAX_NUMBER-clause-found c =
    let isnt : length c.args.text.now ≢ 0 = eqb-false (length c.args.text.now) 0 (sym c.is_empty.ensures ∙ c.if-is_empty.false) in
    let some : 0 < length c.args.text.now = omega (arith, isnt) in
    number_found c.args.text.now c.args.value (record { some = some; each = c.requires.digits; number_is = c.requires.value })
    (λ zero. elim (cases_lt 1 (length c.args.text.now)) [
      | inl more ↦ absurd (c.if-has_spare_zero.ensures.no (record { goes_on = more; zero_first = zero }))
      | inr one ↦ omega (arith, some, one)
    ])
    c.if-value-le-MAX_NUMBER.true

pub returns-then-value-le-MAX_NUMBER-clause-only : goal.returns-then-value-le-MAX_NUMBER-clause-only
returns-then-value-le-MAX_NUMBER-clause-only c = λ number is.
    let spells = spelled c.args.text.now number is in
    ap Some (c.requires.value ∙ sym spells.number_is)

pub returns-else-value-le-MAX_NUMBER-clause-only : goal.returns-else-value-le-MAX_NUMBER-clause-only
returns-else-value-le-MAX_NUMBER-clause-only c = λ number is.
    let spells = spelled c.args.text.now number is in
    absurd (omega (arith, spells.number_is, c.requires.value, is.most, c.if-value-le-MAX_NUMBER.false))
