-- Hexadecimal in upper case.
use Rattle.std.proofs.Common.{◌≡◌, ◌≢◌, ℕ, zero, suc, ◌+◌, ◌-◌, ◌*◌, ◌/◌, ◌%◌, ◌<◌, ◌≤◌, ◌==◌, Bool, true, cond, ◌&&◌, inl, inr, List, [], ◌∷◌, length, slice_index, All, refl, sym, ◌∙◌, ap, subst, arith}
use Rattle.std.specs.Prelude.{nat_lt, codes}
use Rattle.std.proofs.lemmas.Bool.{and_parts, cases_lt, eqb-true}
use Rattle.std.proofs.lemmas.Bool.Decides.{nat_tests}
use Rattle.std.proofs.lemmas.List.Elements.{All-nil, All-cons, All-head, All-tail}
use Rattle.hex.specs.Hex.{encode_upper, encode_with, upper_digits}
use Rattle.hex.proofs.HexLemmas.{length-encode_with}
use Rattle.trace_lines.specs.Trace.{IsReplyText}
use Rattle.trace_lines.specs.LineInside.{IsUpperDigit, IsHex}

abbrev IsByte : ℕ → Type 0
IsByte byte = byte < 256

-- the digit of a value below 16
abbrev digit_of : ℕ → ℕ
digit_of value = cond (nat_lt value 10) (48 + value) (55 + value)

-- the table has it at its place
abbrev is_right : ℕ → Bool
is_right value = slice_index upper_digits value == digit_of value

abbrev are_right : ℕ → Bool
are_right zero = true
are_right (suc n) = is_right n && are_right n

are_right-at : (n k : ℕ) → are_right n ≡ true → k < n → is_right k ≡ true
are_right-at zero k all lt = absurd (omega arith)
are_right-at (suc n) k all lt =
    let parts = and_parts (is_right n) (are_right n) all in
    elim (cases_lt k n) [
      | inl below ↦ are_right-at n k parts.1 below
      | inr top ↦ let same : k ≡ n = omega arith in rw same parts.0
    ]

upper_digit : (value : ℕ) → value < 16 → slice_index upper_digits value ≡ digit_of value
upper_digit value lt = eqb-true (slice_index upper_digits value) (digit_of value) (are_right-at 16 value refl lt)

digit_low : (value : ℕ) → value < 10 → digit_of value ≡ 48 + value
digit_low value low = grind (arith, nat_tests)

digit_high : (value : ℕ) → 10 ≤ value → digit_of value ≡ 55 + value
digit_high value high = grind (arith, nat_tests)

-- the digits of the table are of upper case
is_upper : (value : ℕ) → value < 16 → IsUpperDigit (slice_index upper_digits value)
is_upper value lt = elim (cases_lt value 10) [
  | inl low ↦ let is = upper_digit value lt ∙ digit_low value low in inl (omega (arith, is), omega (arith, is))
  | inr high ↦ let is = upper_digit value lt ∙ digit_high value high in inr (omega (arith, is), omega (arith, is))
]

-- A digit of upper case is one of the table.
abbrev IsOfTable : ℕ → Type 0
IsOfTable digit = (value : ℕ) × (value < 16) × (slice_index upper_digits value ≡ digit)

of_table : (digit : ℕ) → IsUpperDigit digit → IsOfTable digit
of_table digit (inl low) =
    let value : ℕ = digit - 48 in
    let is = upper_digit value (omega (arith, low.0, low.1)) ∙ digit_low value (omega (arith, low.0, low.1)) in
    (value, omega (arith, low.0, low.1), omega (arith, is, low.0, low.1))
of_table digit (inr high) =
    let value : ℕ = digit - 55 in
    let is = upper_digit value (omega (arith, high.0, high.1)) ∙ digit_high value (omega (arith, high.0, high.1)) in
    (value, omega (arith, high.0, high.1), omega (arith, is, high.0, high.1))

-- pairs of digits of upper case are the hexadecimal of bytes
pub hex_of : (text : List ℕ) → length text % 2 ≡ 0 → All IsUpperDigit text → IsHex text
unfolding encode_with
hex_of [] even each = record { bytes = []; each = All-nil IsByte; text_is = refl }
hex_of (a ∷ []) even each = absurd (omega arith)
hex_of (a ∷ b ∷ rest) even each =
    let tail = All-tail IsUpperDigit a (b ∷ rest) each in
    let high = of_table a (All-head IsUpperDigit a (b ∷ rest) each) in
    let low = of_table b (All-head IsUpperDigit b rest tail) in
    let more = hex_of rest (omega arith) (All-tail IsUpperDigit b rest tail) in
    let byte : ℕ = high.0 * 16 + low.0 in
    let high_is : (high.0 * 16 + low.0) / 16 ≡ high.0 = omega (arith, high.1, low.1) in
    let low_is : (high.0 * 16 + low.0) % 16 ≡ low.0 = omega (arith, high.1, low.1) in
    let first : a ≡ slice_index upper_digits ((high.0 * 16 + low.0) / 16) = sym (ap (slice_index upper_digits) high_is ∙ high.2) in
    let second : b ≡ slice_index upper_digits ((high.0 * 16 + low.0) % 16) = sym (ap (slice_index upper_digits) low_is ∙ low.2) in
    record {
      bytes = (high.0 * 16 + low.0) ∷ more.bytes;
      each = All-cons IsByte (high.0 * 16 + low.0) more.bytes (omega (arith, high.1, low.1)) more.each;
      text_is = cc (first, second, more.text_is);
    }

upper_of : (bytes : List ℕ) → All IsByte bytes → All IsUpperDigit (encode_upper bytes)
unfolding encode_with
upper_of [] each = All-nil IsUpperDigit
upper_of (byte ∷ bytes) each =
    let fits : byte < 256 = All-head IsByte byte bytes each in
    let more = upper_of bytes (All-tail IsByte byte bytes each) in
    All-cons IsUpperDigit (slice_index upper_digits (byte / 16)) (slice_index upper_digits (byte % 16) ∷ encode_upper bytes) (is_upper (byte / 16) (omega arith))
    (All-cons IsUpperDigit (slice_index upper_digits (byte % 16)) (encode_upper bytes) (is_upper (byte % 16) (omega arith)) more)

-- what hexadecimal is
pub hex_digits : (text : List ℕ) → IsHex text → All IsUpperDigit text
hex_digits text hex = subst (All IsUpperDigit) (sym hex.text_is) (upper_of hex.bytes hex.each)

pub hex_length : (text : List ℕ) → (hex : IsHex text) → length text ≡ 2 * length hex.bytes
hex_length text hex = ap length hex.text_is ∙ length-encode_with upper_digits hex.bytes

pub no_odd_hex : (text : List ℕ) → length text % 2 ≡ 1 → IsHex text → ⊥
no_odd_hex text odd hex = let len = hex_length text hex in absurd (omega (arith, len))

-- a reply in hexadecimal
pub reply_hex : (text : List ℕ) → 0 < length text → IsHex text → IsReplyText text
reply_hex text some hex =
    let len = hex_length text hex in
    inr (inr (record { bytes = hex.bytes; some = omega (arith, len); each = hex.each; text = hex.text_is }))

-- any other text is none
pub no_reply : (text : List ℕ) → text ≢ codes "-" → text ≢ codes "finished" → (0 < length text → IsHex text → ⊥) → IsReplyText text → ⊥
no_reply text none end bytes (inl is) = none is
no_reply text none end bytes (inr (inl is)) = end is
no_reply text none end bytes (inr (inr is)) =
    let hex : IsHex text = record { bytes = is.bytes; each = is.each; text_is = is.text } in
    let len = hex_length text hex in
    bytes (omega (arith, len, is.some)) hex
