-- A text that begins with a field.
use Rattle.std.proofs.Common.{◌≡◌, ◌≢◌, ℕ, suc, ◌+◌, ◌<◌, ◌≤◌, inl, inr, List, ◌∷◌, ◌++◌, length, take, drop, get_or, All, sym, ◌∙◌, ap, subst, arith, length-append, get_or-take, length-take-le}
use Rattle.std.proofs.lemmas.Bool.{cases_lt}
use Rattle.std.proofs.lemmas.List.{get_or_append_left}
use Rattle.std.proofs.lemmas.Grind.{common_steps, elements}
use Rattle.std.specs.Fmt.{decimal}
use Rattle.hex.specs.Hex.{encode_upper}
use Rattle.swp08_messages.specs.declared.message.Message.{Message}
use Rattle.swp08_messages.specs.Text.{text}
use Rattle.plant_core.specs.State.{IsForPlant}
use Rattle.line_text.specs.Cut.{space, HasNo, IsCut}
use Rattle.line_text.specs.Decimal.{IsDigit}
use Rattle.line_text.proofs.CutLemmas.{one_cut}
use Rattle.trace_lines.specs.LineInside.{IsUpperDigit, IsNumber, IsMessageText, BeginsWithNumber, BeginsWithMessage}
use Rattle.trace_lines.proofs.DecimalLemmas.{AreDigits, digits_of_number, few_of_number}
use Rattle.trace_lines.proofs.UpperHex.{hex_digits}
use Rattle.trace_lines.proofs.MessageHex.{message_hex}

no_space-digits : (digits : List ℕ) → AreDigits digits → HasNo space digits
no_space-digits digits each = λ k d below is. let digit = each k d below in omega (arith, digit.0, digit.1, is)

-- What stands before the first space is the number that the text begins with.
pub number_cut : (line front rest : List ℕ) → IsCut space line front rest → (number : ℕ) (behind : List ℕ) → BeginsWithNumber line number behind → IsNumber front number × (rest ≡ behind)
number_cut line front rest cut number behind begins =
    let parts = one_cut space front (decimal number) rest behind cut.first (no_space-digits (decimal number) (digits_of_number number begins.most)) (sym cut.place ∙ begins.place) in
    (record { text_is = parts.0; most = begins.most }, parts.1)

cut_place : (line : List ℕ) (n : ℕ) → n < length line → get_or line n 0 ≡ space → line ≡ take n line ++ space ∷ drop (n + 1) line
cut_place line n within is = grind (arith, is, common_steps)

-- A field of bytes of one kind, to which a space does not belong, ends where a text first has another byte.
field_ends : (P : ℕ → Type 0) (line field behind : List ℕ) → (P space → ⊥) → line ≡ field ++ space ∷ behind → All P field → (n : ℕ) → n ≤ length line → All P (take n line) → (n < length field → P (get_or line n 0) → ⊥) → (n < length line) × (get_or line n 0 ≡ space)
field_ends P line field behind other is each n within front ends =
    let len : length line ≡ length field + suc (length behind) = ap length is ∙ length-append field (space ∷ behind) in
    elim (cases_lt n (length field)) [
      | inl below ↦
          let at : get_or line n 0 ≡ get_or field n 0 = ap (λ (text : List ℕ). get_or text n 0) is ∙ get_or_append_left field (space ∷ behind) 0 n below in
          absurd (ends below (subst P (sym at) (each n 0 below)))
      | inr from ↦ elim (cases_lt (length field) n) [
        | inl past ↦ absurd (other (subst P (get_or-take n line (length field) 0 past ∙ space_there) (front (length field) 0 (rw (length-take-le n line within) past))))
        | inr none ↦ let end : n ≡ length field = omega (arith, from, none) in rw end (omega (arith, len), space_there)
      ]
    ]
  where
    space_there : get_or line (length field) 0 ≡ space
    space_there = grind (arith, is, elements)

digit_is_no_space : IsDigit space → ⊥
digit_is_no_space digit = omega (arith, digit.0, digit.1)

-- Where the digits in front of a text end, a number that it begins with ends, and a space stands.
pub number_ends : (line : List ℕ) (n : ℕ) → n ≤ length line → AreDigits (take n line) → (n < 19 → n < length line → IsDigit (get_or line n 0) → ⊥) → (number : ℕ) (behind : List ℕ) → BeginsWithNumber line number behind → (n < length line) × (get_or line n 0 ≡ space)
number_ends line n within each ends number behind begins =
    let few = few_of_number number begins.most in
    let len : length line ≡ length (decimal number) + suc (length behind) = ap length begins.place ∙ length-append (decimal number) (space ∷ behind) in
    field_ends IsDigit line (decimal number) behind digit_is_no_space begins.place (digits_of_number number begins.most) n within each (λ below digit. ends (omega (arith, few, below)) (omega (arith, len, below)) digit)

-- A text is cut where the digits in front of it end and a space stands.
pub number_cut_at : (line : List ℕ) (n : ℕ) → n < length line → AreDigits (take n line) → get_or line n 0 ≡ space → IsCut space line (take n line) (drop (n + 1) line)
number_cut_at line n within each is = record { place = cut_place line n within is; first = no_space-digits (take n line) each }

no_space-message : (message : Message) → IsForPlant message → HasNo space (encode_upper (text message))
no_space-message message is = λ k d below at. no_space-upper (get_or (encode_upper (text message)) k d) (hex_digits (encode_upper (text message)) (message_hex message is) k d below) at
  where
    no_space-upper : (digit : ℕ) → IsUpperDigit digit → digit ≢ space
    no_space-upper digit upper at = grind arith

-- What stands before the first space is the message that the text begins with.
pub message_cut : (line front rest : List ℕ) → IsCut space line front rest → (message : Message) (behind : List ℕ) → BeginsWithMessage line message behind → IsMessageText front message × (rest ≡ behind)
message_cut line front rest cut message behind begins =
    let parts = one_cut space front (encode_upper (text message)) rest behind cut.first (no_space-message message begins.for_plant) (sym cut.place ∙ begins.place) in
    (record { for_plant = begins.for_plant; text_is = parts.0 }, parts.1)

upper_is_no_space : IsUpperDigit space → ⊥
upper_is_no_space (inl digit) = omega (arith, digit.0, digit.1)
upper_is_no_space (inr letter) = omega (arith, letter.0, letter.1)

-- The same of a message and its digits.
pub message_ends : (line : List ℕ) (n : ℕ) → n ≤ length line → All IsUpperDigit (take n line) → (n < length line → IsUpperDigit (get_or line n 0) → ⊥) → (message : Message) (behind : List ℕ) → BeginsWithMessage line message behind → (n < length line) × (get_or line n 0 ≡ space)
message_ends line n within each ends message behind begins =
    let len : length line ≡ length (encode_upper (text message)) + suc (length behind) = ap length begins.place ∙ length-append (encode_upper (text message)) (space ∷ behind) in
    field_ends IsUpperDigit line (encode_upper (text message)) behind upper_is_no_space begins.place (hex_digits (encode_upper (text message)) (message_hex message begins.for_plant)) n within each (λ below digit. ends (omega (arith, len, below)) digit)

no_space-hex : (digits : List ℕ) → All IsUpperDigit digits → HasNo space digits
no_space-hex digits each = λ k d below is. upper_is_no_space (subst IsUpperDigit is (each k d below))

pub message_cut_at : (line : List ℕ) (n : ℕ) → n < length line → All IsUpperDigit (take n line) → get_or line n 0 ≡ space → IsCut space line (take n line) (drop (n + 1) line)
message_cut_at line n within each is = record { place = cut_place line n within is; first = no_space-hex (take n line) each }
