-- Parts of a text, and what stands in them.
use Rattle.std.proofs.Common.{◌≡◌, ℕ, ◌+◌, ◌*◌, ◌<◌, ◌≤◌, ◌==◌, ◌⊎◌, inl, inr, zero, suc, Bool, true, false, if◌then◌else◌, List, [], ◌∷◌, ◌++◌, length, take, drop, get_or, Some, None, refl, ap, sym, ◌∙◌, arith}
use Rattle.std.proofs.lemmas.List.{drop-drop, drop_more, take_all, length-take-le, length-drop, get_or-take, get_or-drop, get_or_past, length-take}
use Rattle.std.proofs.lemmas.Nat.{le_bytes_2, le_bytes_4}
use Rattle.std.proofs.lemmas.Bool.{cases_lt}
use Rattle.std.proofs.lemmas.Bool.Decides.{nat_tests}
use Rattle.std.specs.List.{flat_map, range_with_len}
use Rattle.plant_config.proofs.OneMore.{flat_map-range_more}
use Rattle.plant_core.specs.StateText.{four, two, four_or_none, two_or_none, texts_of}
use Rattle.plant_core.specs.StateFields.{byte_at, two_at, four_at, some_two_at, some_four_at}
use Rattle.plant_core.specs.ReadInside.{part}

-- All of these are bytes.
abbrev pub AreBytes : List ℕ → Type 0
AreBytes bytes = (place : ℕ) → get_or bytes place 0 < 256

-- the front of a list, and what stands behind it
take-add : (one two : ℕ) (items : List ℕ) → take (one + two) items ≡ take one items ++ take two (drop one items)
take-add zero two items =
    let same : zero + two ≡ two = omega arith in
    ap (λ (count : ℕ). take count items) same
take-add (suc one) two [] =
    let same : suc one + two ≡ suc (one + two) = omega arith in
    ap (λ (count : ℕ). take count []) same ∙ sym (take_all two [] (omega arith))
take-add (suc one) two (item ∷ items) =
    let same : suc one + two ≡ suc (one + two) = omega arith in
    ap (λ (count : ℕ). take count (item ∷ items)) same ∙ ap (λ rest. item ∷ rest) (take-add one two items)

-- no bytes, all bytes, and one part behind another
pub part_none : (bytes : List ℕ) (place : ℕ) → part bytes place 0 ≡ []
unfolding part
part_none bytes place = refl

pub part_all : (bytes : List ℕ) (count : ℕ) → length bytes ≡ count → part bytes 0 count ≡ bytes
unfolding part
part_all bytes count all = take_all count bytes (omega arith)

pub part_behind : (bytes : List ℕ) (place one two : ℕ) → part bytes place (one + two) ≡ part bytes place one ++ part bytes (place + one) two
unfolding part
part_behind bytes place one two = take-add one two (drop place bytes) ∙ ap (λ rest. take one (drop place bytes) ++ take two rest) (drop-drop one place bytes)

-- two parts, where the second stands behind the first
pub parts_join : (bytes one two : List ℕ) (place next first second : ℕ) → one ≡ part bytes place first → two ≡ part bytes next second → next ≡ place + first → one ++ two ≡ part bytes place (first + second)
parts_join bytes one two place next first second is is_too at =
    ap (λ front. front ++ two) is
    ∙ ap (λ rest. part bytes place first ++ rest) (is_too ∙ ap (λ (from : ℕ). part bytes from second) at)
    ∙ sym (part_behind bytes place first second)

-- a byte, and numbers of two and of four bytes
pub part_byte : (bytes : List ℕ) (place : ℕ) → place < length bytes → byte_at bytes place ∷ [] ≡ part bytes place 1
unfolding part byte_at
part_byte bytes place inside = sym (ap (take 1) (drop_more bytes place 0 inside))

inside_bytes : (bytes : List ℕ) (place count index : ℕ) → AreBytes bytes → (index < count) ⊎ (count ≤ index) → get_or (take count (drop place bytes)) index 0 < 256
inside_bytes bytes place count index are (inl inside) =
    let found : get_or bytes (place + index) 0 < 256 = are (place + index) in
    omega (arith, get_or-take count (drop place bytes) index 0 inside, get_or-drop place bytes index 0)
inside_bytes bytes place count index are (inr outside) =
    let few : length (take count (drop place bytes)) ≤ index = omega (arith, length-take count (drop place bytes)) in
    omega (arith, get_or_past (take count (drop place bytes)) index 0 few)

part_bytes : (bytes : List ℕ) (place count : ℕ) → AreBytes bytes → (index : ℕ) → get_or (part bytes place count) index 0 < 256
unfolding part
part_bytes bytes place count are index = inside_bytes bytes place count index are (cases_lt index count)

length-part : (bytes : List ℕ) (place count : ℕ) → place + count ≤ length bytes → length (part bytes place count) ≡ count
unfolding part
length-part bytes place count inside = length-take-le count (drop place bytes) (omega (arith, length-drop place bytes))

pub part_two : (bytes : List ℕ) (place : ℕ) → AreBytes bytes → place + 2 ≤ length bytes → two (two_at bytes place) ≡ part bytes place 2
unfolding part two_at
part_two bytes place are inside = le_bytes_2 (part bytes place 2) (two_at bytes place) (length-part bytes place 2 inside) (part_bytes bytes place 2 are) refl

pub part_four : (bytes : List ℕ) (place : ℕ) → AreBytes bytes → place + 4 ≤ length bytes → four (four_at bytes place) ≡ part bytes place 4
unfolding part four_at
part_four bytes place are inside = le_bytes_4 (part bytes place 4) (four_at bytes place) (length-part bytes place 4 inside) (part_bytes bytes place 4 are) refl

two_by : (number : ℕ) (is_none : Bool) → (number == 65535) ≡ is_none → two_or_none (if is_none then None else Some number) ≡ two number
two_by number true is = let same : number ≡ 65535 = grind (arith, nat_tests) in sym (ap two same)
two_by number false is = refl

four_by : (number : ℕ) (is_none : Bool) → (number == 4294967295) ≡ is_none → four_or_none (if is_none then None else Some number) ≡ four number
four_by number true is = let same : number ≡ 4294967295 = grind (arith, nat_tests) in sym (ap four same)
four_by number false is = refl

pub part_some_two : (bytes : List ℕ) (place : ℕ) → AreBytes bytes → place + 2 ≤ length bytes → two_or_none (some_two_at bytes place) ≡ part bytes place 2
unfolding some_two_at
part_some_two bytes place are inside = two_by (two_at bytes place) (two_at bytes place == 65535) refl ∙ part_two bytes place are inside

pub part_some_four : (bytes : List ℕ) (place : ℕ) → AreBytes bytes → place + 4 ≤ length bytes → four_or_none (some_four_at bytes place) ≡ part bytes place 4
unfolding some_four_at
part_some_four bytes place are inside = four_by (four_at bytes place) (four_at bytes place == 4294967295) refl ∙ part_four bytes place are inside

-- the texts of the first so many, each of which is the part of its number
texts_below : (bytes : List ℕ) (place width all count : ℕ) (text : ℕ → List ℕ) → count ≤ all → ((number : ℕ) → number < all → text number ≡ part bytes (place + number * width) width) → texts_of count text ≡ part bytes place (count * width)
unfolding texts_of
texts_below bytes place width all zero text few each =
    let none : 0 * width ≡ 0 = omega arith in
    sym (part_none bytes place) ∙ sym (ap (part bytes place) none)
texts_below bytes place width all (suc count) text few each =
    let same : suc count ≡ count + 1 = omega arith in
    let wider : count * width + width ≡ suc count * width = omega arith in
    ap (λ (number : ℕ). flat_map text (range_with_len 0 number)) same
    ∙ flat_map-range_more text count
    ∙ ap (λ front. front ++ text count) (texts_below bytes place width all count text (omega arith) each)
    ∙ ap (λ last. part bytes place (count * width) ++ last) (each count (omega arith))
    ∙ sym (part_behind bytes place (count * width) width)
    ∙ ap (part bytes place) wider

pub part_texts : (bytes : List ℕ) (place width count : ℕ) (text : ℕ → List ℕ) → ((number : ℕ) → number < count → text number ≡ part bytes (place + number * width) width) → texts_of count text ≡ part bytes place (count * width)
part_texts bytes place width count text each = texts_below bytes place width count count text (omega arith) each
