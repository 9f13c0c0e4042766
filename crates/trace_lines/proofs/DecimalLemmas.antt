-- Decimal digits, and the number that they spell.
use Rattle.std.proofs.Common.{◌≡◌, ℕ, ◌<◌, ◌≤◌, ◌^◌, inl, inr, List, length, get_or, All, sym, ◌∙◌, ap, subst, arith}
use Rattle.std.specs.Fmt.{decimal}
use Rattle.std.specs.Str.Parse.{digits_value}
use Rattle.std.proofs.lemmas.Bool.{cases_lt}
use Rattle.std.proofs.lemmas.Str.Parse.{IsNumeralModel, numerals_by_value}
use Rattle.std.proofs.lemmas.List.Elements.{All-nil, All-cons, All-head, All-tail}
use Rattle.std.proofs.lemmas.Fmt.{digits_decimal, digits_value-decimal, decimal-digits_value, decimal_nonempty, length-decimal-le, first_decimal, decimal_digit}
use Rattle.trace_lines.specs.TraceLine.{trace_limit}
use Rattle.line_text.specs.Decimal.{IsDigit, SpellsDecimal}
use Rattle.trace_lines.specs.LineInside.{IsNumber}

-- the digits of a text
abbrev pub AreDigits : List ℕ → Type 0
AreDigits text = All IsDigit text

own : IsNumeralModel AreDigits (digits_value 10)
own = numerals_by_value AreDigits (record {
  empty = All-nil IsDigit;
  parts = λ byte more each. (All-head IsDigit byte more each, All-tail IsDigit byte more each);
  more = λ byte more digit each. All-cons IsDigit byte more digit each;
})

-- A number of a trace is one of 64 bits.
small : (number : ℕ) → number ≤ trace_limit → number < 2 ^ 64
small number most = omega arith

pub number_found : (text : List ℕ) (number : ℕ) → SpellsDecimal text number → (get_or text 0 0 ≡ 48 → length text ≡ 1) → number ≤ trace_limit → IsNumber text number
number_found text number digits plain most =
    let fits : digits_value 10 text < 2 ^ 64 = omega (arith, digits.number_is) in
    record { text_is = sym (ap decimal digits.number_is ∙ decimal-digits_value own text digits.each digits.some plain fits); most = most }

-- A number of a trace has few digits.
pub few_of_number : (number : ℕ) → number ≤ trace_limit → length (decimal number) ≤ 19
few_of_number number most = length-decimal-le 19 number (omega arith) (omega (arith, most)) (small number most)

pub no_number-zero : (text : List ℕ) → get_or text 0 0 ≡ 48 → 1 < length text → (number : ℕ) → IsNumber text number → ⊥
no_number-zero text zero more number is =
    let same = ap length is.text_is in
    let front = ap (λ (t : List ℕ). get_or t 0 0) is.text_is in
    elim (cases_lt 0 number) [
      | inl some ↦ let first = first_decimal number some (small number is.most) in absurd (omega (arith, first, front))
      | inr none ↦ let one = ap length (decimal_digit number (omega arith)) in absurd (omega (arith, one, same))
    ]

pub spelled : (text : List ℕ) (number : ℕ) → IsNumber text number → SpellsDecimal text number
spelled text number is =
    let some = decimal_nonempty number (small number is.most) in
    let same = ap length is.text_is in
    record {
      some = omega (arith, some, same);
      each = subst AreDigits (sym is.text_is) (digits_decimal own number (small number is.most));
      number_is = sym (ap (digits_value 10) is.text_is ∙ digits_value-decimal own number (small number is.most));
    }

-- the digits of a number of a trace
pub digits_of_number : (number : ℕ) → number ≤ trace_limit → AreDigits (decimal number)
digits_of_number number most = digits_decimal own number (small number most)
