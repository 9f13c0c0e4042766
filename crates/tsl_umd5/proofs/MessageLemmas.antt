-- One display message: what is read is what was written, and what was written is read again.
use Rattle.std.proofs.Common.{◌≡◌, ℕ, zero, suc, ◌+◌, ◌*◌, ◌/◌, ◌%◌, ◌^◌, ◌<◌, ◌≤◌, Bool, true, false, not, cond, ltb, leb, List, [], ◌∷◌, ◌++◌, length, get_or, take, drop, Option, Some, None, Result, Ok, Err, refl, sym, ap, subst, ◌∙◌, arith, inl, inr, ◌↔◌, is_some}
use Rattle.std.specs.List.{AllByRecursion, position, position_from}
use Rattle.std.specs.Option.{option_map_or}
use Rattle.std.proofs.lemmas.Bool.{ltb-false, le-ltb, le-leb, lt-leb, leb-false, cases_Bool}
use Rattle.std.proofs.lemmas.Bool.Decides.{nat_tests}
use Rattle.std.proofs.lemmas.List.{take_at, drop_at, take-append-drop, length-append, length-take, length-drop, get_or-drop}
use Rattle.std.proofs.lemmas.Nat.{le_bytes_2, from_le_bytes-to_le_bytes_2}
use Rattle.std.proofs.lemmas.Iterator.Adapters.{position_from-zero}
use Rattle.tsl_umd5.specs.declared.fault.TslFault.{TslFault}
use Rattle.tsl_umd5.specs.declared.fault.TslFault.TheVariants.{ReservedBits, NotAscii}
use Rattle.tsl_umd5.specs.declared.lamp.Lamp.{Lamp}
use Rattle.tsl_umd5.specs.declared.lamp.Lamp.TheVariants.{Off, Red, Green, Amber}
use Rattle.tsl_umd5.specs.Layout.{message_head}
use Rattle.tsl_umd5.specs.Lamp.{lamp_code, lamp_of}
use Rattle.tsl_umd5.specs.Packet.{Display, Message, IsMessage, word, message_text, control_of, message_of, IsPrintable}
use Rattle.tsl_umd5.specs.Reading.{field_number, front, display_of, is_printable, judged}

abbrev pub IsBytes : List ℕ → Type 0
IsBytes bytes = (i : ℕ) → get_or bytes i 0 < 256

-- ---- fields of 16 bits

pub number-word : (n : ℕ) → n < 2 ^ 16 → field_number (n % 256) (n / 256 % 256) ≡ n
number-word n lt = from_le_bytes-to_le_bytes_2 n lt

two_bytes : (low high : ℕ) → low < 256 → high < 256 → IsBytes (low ∷ high ∷ [])
two_bytes low high l h zero = l
two_bytes low high l h (suc zero) = h
two_bytes low high l h (suc (suc i)) = omega arith

pub word-number : (low high : ℕ) → low < 256 → high < 256 → word (field_number low high) ≡ low ∷ high ∷ []
word-number low high l h = le_bytes_2 (low ∷ high ∷ []) (field_number low high) refl (two_bytes low high l h) refl

pub number_below : (low high : ℕ) → low < 256 → high < 256 → field_number low high < 2 ^ 16
number_below low high l h = omega arith

-- ---- the message at the front

pub front_again : (m : Message) (rest : List ℕ) → IsMessage m → front (message_text m ++ rest) ≡ Some (m, rest)
unfolding front message_text
front_again m rest fits =
    let long : ltb (length (m.text ++ rest)) (length m.text) ≡ false = le-ltb _ _ (omega (arith, length-append m.text rest)) in
    rw (number-word m.index fits.index, number-word m.control fits.control, number-word (length m.text) fits.text, long, take_at m.text rest (length m.text) refl, drop_at m.text rest (length m.text) refl) refl

chosen : {A : Type 0} (b : Bool) (x y : A) → cond b None (Some x) ≡ Some y → (b ≡ false) × (x ≡ y)
chosen true x y e = absurd cc
chosen false x y e = (refl, cc)

pub front_takes : (bytes : List ℕ) (x : Message × List ℕ) → IsBytes bytes → front bytes ≡ Some x → (bytes ≡ message_text x.0 ++ x.1) × IsMessage x.0 × IsBytes x.1
unfolding front message_text
front_takes (i₀ ∷ i₁ ∷ c₀ ∷ c₁ ∷ n₀ ∷ n₁ ∷ bytes) x fits e =
    let len = field_number n₀ n₁ in
    let m : Message = record { index = field_number i₀ i₁; control = field_number c₀ c₁; text = take len bytes } in
    let g = chosen (ltb (length bytes) len) (m, drop len bytes) x e in
    let is_len : length (take len bytes) ≡ len = omega (arith, length-take len bytes, ltb-false _ _ g.0) in
    let below = number_below n₀ n₁ (fits 4) (fits 5) in
    let fields : IsMessage m = record { index = number_below i₀ i₁ (fits 0) (fits 1); control = number_below c₀ c₁ (fits 2) (fits 3); text = omega arith } in
    let behind : IsBytes (drop len bytes) = λ i. rw get_or-drop (fits (suc (suc (suc (suc (suc (suc (len + i)))))))) in
    let whole : i₀ ∷ i₁ ∷ c₀ ∷ c₁ ∷ n₀ ∷ n₁ ∷ bytes ≡ message_text m ++ drop len bytes = cc (word-number i₀ i₁ (fits 0) (fits 1), word-number c₀ c₁ (fits 2) (fits 3), ap word is_len ∙ word-number n₀ n₁ (fits 4) (fits 5), take-append-drop len bytes) in
    subst (λ (y : Message × List ℕ). (i₀ ∷ i₁ ∷ c₀ ∷ c₁ ∷ n₀ ∷ n₁ ∷ bytes ≡ message_text y.0 ++ y.1) × IsMessage y.0 × IsBytes y.1) g.1 (whole, fields, behind)
front_takes bytes x fits e = absurd cc

-- what is behind the front is shorter
pub length-front : (bytes : List ℕ) (x : Message × List ℕ) → front bytes ≡ Some x → length bytes ≡ message_head + length x.0.text + length x.1
unfolding front
length-front (i₀ ∷ i₁ ∷ c₀ ∷ c₁ ∷ n₀ ∷ n₁ ∷ bytes) x e =
    let len = field_number n₀ n₁ in
    let g = chosen (ltb (length bytes) len) (record { index = field_number i₀ i₁; control = field_number c₀ c₁; text = take len bytes }, drop len bytes) x e in
    subst (λ (y : Message × List ℕ). length (i₀ ∷ i₁ ∷ c₀ ∷ c₁ ∷ n₀ ∷ n₁ ∷ bytes) ≡ message_head + length y.0.text + length y.1) g.1 (omega (arith, length-take len bytes, length-drop len bytes, ltb-false _ _ g.0))
length-front bytes x e = absurd cc

-- ---- what the fields say

lamp_below : (l : Lamp) → lamp_code l < 4
lamp_below Off = omega arith
lamp_below Red = omega arith
lamp_below Green = omega arith
lamp_below Amber = omega arith

lamp_of-lamp_code : (l : Lamp) → lamp_of (lamp_code l) ≡ l
lamp_of-lamp_code Off = refl
lamp_of-lamp_code Red = refl
lamp_of-lamp_code Green = refl
lamp_of-lamp_code Amber = refl

lamp_code-lamp_of : (n : ℕ) → n < 4 → lamp_code (lamp_of n) ≡ n
lamp_code-lamp_of zero lt = refl
lamp_code-lamp_of (suc zero) lt = refl
lamp_code-lamp_of (suc (suc zero)) lt = refl
lamp_code-lamp_of (suc (suc (suc zero))) lt = refl
lamp_code-lamp_of (suc (suc (suc (suc n)))) lt = absurd (omega arith)

-- four numbers of two bits each are found again in their sum
bits_again : (a b c d n : ℕ) → a < 4 → b < 4 → c < 4 → n ≡ a + 4 * b + 16 * c + 64 * d → (n % 4 ≡ a) × (n / 4 % 4 ≡ b) × (n / 16 % 4 ≡ c) × (n / 64 ≡ d)
bits_again a b c d n la lb lc e = (omega arith, omega arith, omega arith, omega arith)

bits_sum : (n : ℕ) → n % 4 + 4 * (n / 4 % 4) + 16 * (n / 16 % 4) + 64 * (n / 64) ≡ n
bits_sum n = omega arith

pub control_below : (d : Display) → d.brightness ≤ 3 → control_of d < 256
control_below d le = omega (arith, lamp_below d.right, lamp_below d.middle, lamp_below d.left)

pub display_again : (d : Display) → display_of (message_of d) ≡ d
display_again d =
    let b = bits_again (lamp_code d.right) (lamp_code d.middle) (lamp_code d.left) d.brightness (control_of d) (lamp_below d.right) (lamp_below d.middle) (lamp_below d.left) refl in
    rw (b.0, b.1, b.2, b.3, lamp_of-lamp_code d.right, lamp_of-lamp_code d.middle, lamp_of-lamp_code d.left) refl

pub message_again : (m : Message) → message_of (display_of m) ≡ m
message_again m =
    rw (lamp_code-lamp_of (m.control % 4) (omega arith), lamp_code-lamp_of (m.control / 4 % 4) (omega arith), lamp_code-lamp_of (m.control / 16 % 4) (omega arith), bits_sum m.control) refl

-- ---- the text

abbrev pub is_unprintable : ℕ → Bool
is_unprintable b = not (is_printable b)

pub is_unprintable-false : (b : ℕ) → IsPrintable b → is_unprintable b ≡ false
is_unprintable-false b printable = rw (le-leb 32 b printable.0, le-leb b 126 printable.1) refl

pub IsPrintable-from : (b : ℕ) → is_unprintable b ≡ false → IsPrintable b
IsPrintable-from b e = grind (arith, nat_tests)

none_of : (i : ℕ) (text : List ℕ) → AllByRecursion IsPrintable text → position_from is_unprintable i text ≡ None
none_of i [] all = refl
none_of i (b ∷ text) all = rw (is_unprintable-false b all.0) (none_of (i + 1) text all.1)

some_is_none : (i : ℕ) → Some i ≡ None → ⊥
some_is_none i e = cc

all_from : (i : ℕ) (text : List ℕ) → position_from is_unprintable i text ≡ None → AllByRecursion IsPrintable text
all_from i [] e = tt
all_from i (b ∷ text) e =
    elim (cases_Bool (is_unprintable b)) [
      | inl t ↦ absurd (some_is_none i (rw t at e))
      | inr f ↦ (IsPrintable-from b f, all_from (i + 1) text (rw f at e))
    ]

ok_by_map : (o : Option ℕ) (fault : ℕ → TslFault) (d e : Display) → option_map_or (λ at. Err (fault at)) o (Ok d) ≡ Ok e → (o ≡ None) × (d ≡ e)
ok_by_map None fault d e is_ok = (refl, cc)
ok_by_map (Some at) fault d e is_ok = absurd cc

pub ok_by_test : {A : Type 0} (b : Bool) (fault : TslFault) (r : Result A TslFault) (x : A) → cond b (Err fault) r ≡ Ok x → (b ≡ false) × (r ≡ Ok x)
ok_by_test true fault r x e = absurd cc
ok_by_test false fault r x e = (refl, e)

-- a message that says what a display shows
pub record IsGood (m : Message) : Type 0 where
  pub control : m.control < 256
  pub text : AllByRecursion IsPrintable m.text

pub judged_ok : (place : ℕ) (m : Message) (d : Display) → judged place m ≡ Ok d → IsGood m × (display_of m ≡ d)
unfolding judged
judged_ok place m d e =
    let tested = ok_by_test (leb 256 m.control) (ReservedBits m.index) (option_map_or (λ at. Err (NotAscii (place + message_head + at))) (position is_unprintable m.text) (Ok (display_of m))) d e in
    let mapped = ok_by_map (position is_unprintable m.text) (λ at. NotAscii (place + message_head + at)) (display_of m) d tested.1 in
    (record { control = leb-false _ _ tested.0; text = all_from 0 m.text (sym (position_from-zero is_unprintable m.text) ∙ mapped.0) }, mapped.1)

pub judged_again : (place : ℕ) (m : Message) → IsGood m → judged place m ≡ Ok (display_of m)
unfolding judged
judged_again place m is_good =
    let none : position is_unprintable m.text ≡ None = position_from-zero is_unprintable m.text ∙ none_of 0 m.text is_good.text in
    rw (lt-leb 256 m.control is_good.control, none) refl

-- whether a text has no byte that is not printable
pub is_text : (text : List ℕ) (o : Option ℕ) (b : Bool) → o ≡ position is_unprintable text → is_some o ≡ not b → (b ≡ true) ↔ AllByRecursion IsPrintable text
is_text text None true found e = (λ _. all_from 0 text (sym (position_from-zero is_unprintable text) ∙ sym found), λ _. refl)
is_text text None false found e = absurd cc
is_text text (Some at) true found e = absurd cc
is_text text (Some at) false found e = (λ t. absurd cc, λ all. absurd (some_is_none at (found ∙ position_from-zero is_unprintable text ∙ none_of 0 text all)))
