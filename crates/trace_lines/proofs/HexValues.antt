-- The values of digits, and the bytes that pairs of them make.
use Rattle.std.proofs.Common.{◌≡◌, ℕ, suc, ◌+◌, ◌-◌, ◌*◌, ◌/◌, ◌%◌, ◌<◌, ◌≤◌, ◌==◌, true, inl, inr, List, [], ◌∷◌, length, get_or, slice_index, All, refl, ap, ◌∙◌, arith}
use Rattle.std.proofs.lemmas.Bool.{agree_below, agree_below_at, cases_lt, eqb-true}
use Rattle.std.proofs.lemmas.Bool.Decides.{nat_tests}
use Rattle.std.proofs.lemmas.List.Elements.{All-head, All-tail}
use Rattle.hex.specs.Hex.{encode_upper, encode_with, upper_digits}
use Rattle.trace_lines.specs.LineInside.{IsUpperDigit, hex_value, pair_value}

abbrev IsByte : ℕ → Type 0
IsByte byte = byte < 256

-- a table has the value of each byte
pub values_are : (table : List ℕ) (byte : ℕ) → byte < 256 → agree_below (λ k. slice_index table k == hex_value k) (λ k. true) 256 ≡ true → slice_index table byte ≡ hex_value byte
values_are table byte below all = eqb-true (slice_index table byte) (hex_value byte) (agree_below_at (λ k. slice_index table k == hex_value k) (λ k. true) 256 byte all below)

value_low : (byte : ℕ) → byte < 48 → hex_value byte ≡ 255
unfolding hex_value
value_low byte low = grind (arith, nat_tests)

value_digit : (byte : ℕ) → 48 ≤ byte → byte < 58 → hex_value byte ≡ byte - 48
unfolding hex_value
value_digit byte low high = grind (arith, nat_tests)

value_between : (byte : ℕ) → 58 ≤ byte → byte < 65 → hex_value byte ≡ 255
unfolding hex_value
value_between byte low high = grind (arith, nat_tests)

value_letter : (byte : ℕ) → 65 ≤ byte → byte < 71 → hex_value byte ≡ byte - 55
unfolding hex_value
value_letter byte low high = grind (arith, nat_tests)

value_high : (byte : ℕ) → 71 ≤ byte → hex_value byte ≡ 255
unfolding hex_value
value_high byte low = grind (arith, nat_tests)

-- A digit has a value below 16, and no other byte has.
pub value_small : (byte : ℕ) → IsUpperDigit byte → hex_value byte < 16
value_small byte (inl digit) = let is = value_digit byte digit.0 (omega (arith, digit.1)) in omega (arith, is, digit.0, digit.1)
value_small byte (inr letter) = let is = value_letter byte letter.0 (omega (arith, letter.1)) in omega (arith, is, letter.0, letter.1)

pub small_value : (byte : ℕ) → hex_value byte < 16 → IsUpperDigit byte
small_value byte small =
    elim (cases_lt byte 48) [
      | inl low ↦ let is = value_low byte low in absurd (omega (arith, is, small))
      | inr from ↦ elim (cases_lt byte 58) [
        | inl digit ↦ inl (from, omega (arith, digit))
        | inr past ↦ elim (cases_lt byte 65) [
          | inl between ↦ let is = value_between byte past between in absurd (omega (arith, is, small))
          | inr upper ↦ elim (cases_lt byte 71) [
            | inl letter ↦ inr (upper, omega (arith, letter))
            | inr high ↦ let is = value_high byte high in absurd (omega (arith, is, small))
          ]
        ]
      ]
    ]

-- the digit of a value has it
value_back : (value : ℕ) → value < 16 → hex_value (slice_index upper_digits value) ≡ value
unfolding hex_value
value_back value small =
    eqb-true (hex_value (slice_index upper_digits value)) value (agree_below_at (λ k. hex_value (slice_index upper_digits k) == k) (λ k. true) 16 value refl small)

whole : (byte : ℕ) → byte < 256 → 16 * hex_value (slice_index upper_digits (byte / 16)) + hex_value (slice_index upper_digits (byte % 16)) ≡ byte
whole byte fits =
    let high = value_back (byte / 16) (omega arith) in
    let low = value_back (byte % 16) (omega arith) in
    omega (arith, high, low)

pair_next : (high low : ℕ) (more : List ℕ) (place : ℕ) → pair_value (high ∷ low ∷ more) (suc place) ≡ pair_value more place
pair_next high low more place =
    let first : 2 * suc place ≡ suc (suc (2 * place)) = omega arith in
    let second : 2 * suc place + 1 ≡ suc (suc (2 * place + 1)) = omega arith in
    rw (second, first) refl

-- the values of the pairs are the bytes
pub pairs_are : (bytes room digits : List ℕ) → All IsByte bytes → digits ≡ encode_upper bytes → length room ≡ length bytes → ((place : ℕ) → place < length room → get_or room place 0 ≡ pair_value digits place) → room ≡ bytes
unfolding encode_with
pairs_are [] [] digits each is len at = refl
pairs_are [] (first ∷ room) digits each is len at = absurd (omega arith)
pairs_are (byte ∷ bytes) [] digits each is len at = absurd (omega arith)
pairs_are (byte ∷ bytes) (first ∷ room) digits each is len at =
    let one : first ≡ byte = at 0 (omega arith) ∙ ap (λ (text : List ℕ). pair_value text 0) is ∙ whole byte (All-head IsByte byte bytes each) in
    let more = pairs_are bytes room (encode_upper bytes) (All-tail IsByte byte bytes each) refl (omega arith)
    (λ place below. at (suc place) (omega arith) ∙ ap (λ (text : List ℕ). pair_value text (suc place)) is
    ∙ pair_next (slice_index upper_digits (byte / 16)) (slice_index upper_digits (byte % 16)) (encode_upper bytes) place) in
    cc (one, more)
