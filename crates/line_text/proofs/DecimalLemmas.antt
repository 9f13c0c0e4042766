-- Decimal digits, and the number that they spell.
use Rattle.std.proofs.Common.{◌≡◌, ℕ, ◌+◌, ◌-◌, ◌*◌, ◌<◌, ◌≤◌, ◌^◌, List, length, get_or, take, All, arith}
use Rattle.std.specs.Str.Parse.{digits_value}
use Rattle.std.proofs.lemmas.Str.{digit_value_digit}
use Rattle.std.proofs.lemmas.Str.Parse.{IsNumeralModel, digits_value_short, numerals_by_value}
use Rattle.std.proofs.lemmas.Int.Digits.{digits_value_more}
use Rattle.std.proofs.lemmas.List.{take_more}
use Rattle.std.proofs.lemmas.List.Elements.{All-nil, All-cons, All-head, All-tail, All-push}
use Rattle.std.proofs.Math.Nat.{pow-le-pow_right}
use Rattle.line_text.specs.Decimal.{IsDigit, SpellsDecimal}

-- one digit more
pub value_more : (digits : List ℕ) (i : ℕ) → i < length digits → IsDigit (get_or digits i 0) → digits_value 10 (take (i + 1) digits) ≡ 10 * digits_value 10 (take i digits) + (get_or digits i 0 - 48)
value_more digits i below digit =
    let more = digits_value_more 10 digits i below in
    let value = digit_value_digit (get_or digits i 0) digit in
    omega (arith, more, value)

pub digits_more : (digits : List ℕ) (i : ℕ) → i < length digits → All IsDigit (take i digits) → IsDigit (get_or digits i 0) → All IsDigit (take (i + 1) digits)
digits_more digits i below each digit = rw (take_more digits i 0 below) (All-push IsDigit (take i digits) (get_or digits i 0) each digit)

-- a number of at most 18 digits
pub few_digits : (i : ℕ) → i < 19 → 10 ^ i ≤ 1000000000000000000
few_digits i few = let le : 10 ^ i ≤ 10 ^ 18 = pow-le-pow_right {n = 10} (omega arith) {i = i} {j = 18} (omega arith) in le

-- std's lemmas on numerals are about texts of these digits
pub own : IsNumeralModel (All IsDigit) (digits_value 10)
own = numerals_by_value (All IsDigit) (record {
  empty = All-nil IsDigit;
  parts = λ byte more each. (All-head IsDigit byte more each, All-tail IsDigit byte more each);
  more = λ byte more digit each. All-cons IsDigit byte more digit each;
})

-- few digits spell a small number
pub number-below : (digits : List ℕ) (number most : ℕ) → SpellsDecimal digits number → length digits ≤ most → number < 10 ^ most
number-below digits number most spells few = omega (arith, spells.number_is, digits_value_short own digits most spells.each few)
