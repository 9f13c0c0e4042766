-- Parts of texts that are made of parts, and the numbers that stand there.
use Rattle.std.proofs.Common.{◌≡◌, ℕ, ◌+◌, ◌-◌, ◌*◌, ◌^◌, ◌<◌, ◌≤◌, ◌==◌, zero, suc, Bool, false, if◌then◌else◌, List, ◌++◌, length, take, drop, get_or, Option, Some, None, IfSome, refl, ap, sym, ◌∙◌, arith, eq-eqb}
use Rattle.std.proofs.lemmas.Bool.Decides.{nat_tests}
use Rattle.std.proofs.lemmas.List.{drop-append-le, take-append-le, drop-drop, drop_at, drop-take, take-take, take_all, length-drop, get_or-take, get_or-drop}
use Rattle.std.proofs.lemmas.Nat.{from_le_bytes-to_le_bytes_2, from_le_bytes-to_le_bytes_4}
use Rattle.std.specs.Int.{w16, w32, from_le_bytes}
use Rattle.std.specs.List.{flat_map, range_with_len}
use Rattle.plant_core.specs.StateText.{four, two, four_or_none, two_or_none, texts_of}
use Rattle.plant_core.specs.StateFields.{byte_at, two_at, four_at, some_two_at, some_four_at}
use Rattle.plant_core.specs.ReadInside.{part}
use Rattle.plant_core.proofs.TextFields.{IsSmall}

-- a part of the first of two lists, of the second, and of a part
pub part_front : (one two : List ℕ) (place count : ℕ) → place + count ≤ length one → part (one ++ two) place count ≡ part one place count
unfolding part
part_front one two place count inside =
    ap (take count) (drop-append-le place one two (omega arith))
    ∙ take-append-le count (drop place one) two (omega (arith, length-drop place one))

pub part_back : (one two : List ℕ) (place from count : ℕ) → place ≡ length one + from → part (one ++ two) place count ≡ part two from count
unfolding part
part_back one two place from count at =
    ap (λ (start : ℕ). take count (drop start (one ++ two))) at
    ∙ ap (take count) (sym (drop-drop from (length one) (one ++ two)))
    ∙ ap (λ rest. take count (drop from rest)) (drop_at one two (length one) refl)

part_of_part : (bytes : List ℕ) (place width from count : ℕ) → from + count ≤ width → part (part bytes place width) from count ≡ part bytes (place + from) count
unfolding part
part_of_part bytes place width from count inside =
    let wide : width ≡ from + (width - from) = omega arith in
    ap (λ (all : ℕ). take count (drop from (take all (drop place bytes)))) wide
    ∙ ap (take count) (drop-take from (width - from) (drop place bytes))
    ∙ take-take count (width - from) (drop from (drop place bytes)) (omega arith)
    ∙ ap (take count) (drop-drop from place bytes)

-- what stands within a text that stands in a text
pub part_within : (bytes text : List ℕ) (place width at from count : ℕ) → part bytes place width ≡ text → at ≡ place + from → from + count ≤ width → part bytes at count ≡ part text from count
part_within bytes text place width at from count stands here inside =
    ap (λ (start : ℕ). part bytes start count) here
    ∙ sym (part_of_part bytes place width from count inside)
    ∙ ap (λ list. part list from count) stands

-- one of many texts of one width
some_text : (from count width number : ℕ) (text : ℕ → List ℕ) → ((n : ℕ) → length (text n) ≡ width) → number < count → part (flat_map text (range_with_len from count)) (number * width) width ≡ text (from + number)
unfolding part
some_text from zero width number text long below = absurd (omega arith)
some_text from (suc count) width zero text long below =
    let front : length (text from) ≡ width = long from in
    let start : zero * width ≡ 0 = omega arith in
    let same : from ≡ from + zero = omega arith in
    ap (λ (place : ℕ). part (text from ++ flat_map text (range_with_len (from + 1) count)) place width) start
    ∙ part_front (text from) (flat_map text (range_with_len (from + 1) count)) 0 width (omega arith)
    ∙ take_all width (text from) (omega arith)
    ∙ ap text same
some_text from (suc count) width (suc number) text long below =
    let front : length (text from) ≡ width = long from in
    let place : suc number * width ≡ width + number * width = omega arith in
    let same : from + 1 + number ≡ from + suc number = omega arith in
    part_back (text from) (flat_map text (range_with_len (from + 1) count)) (suc number * width) (number * width) width (place ∙ ap (λ (long : ℕ). long + number * width) (sym front))
    ∙ some_text (from + 1) count width number text long (omega arith)
    ∙ ap text same

pub text_of_number : (count width number : ℕ) (text : ℕ → List ℕ) → ((n : ℕ) → length (text n) ≡ width) → number < count → part (texts_of count text) (number * width) width ≡ text number
unfolding texts_of
text_of_number count width number text long below =
    let same : 0 + number ≡ number = omega arith in
    some_text 0 count width number text long below ∙ ap text same

-- the numbers that stand at a place
pub four_is : (bytes : List ℕ) (place number : ℕ) → number < 2 ^ 32 → part bytes place 4 ≡ four number → four_at bytes place ≡ number
unfolding part four_at
four_is bytes place number fits stands = ap (from_le_bytes w32) stands ∙ from_le_bytes-to_le_bytes_4 number fits

pub two_is : (bytes : List ℕ) (place number : ℕ) → number < 2 ^ 16 → part bytes place 2 ≡ two number → two_at bytes place ≡ number
unfolding part two_at
two_is bytes place number fits stands = ap (from_le_bytes w16) stands ∙ from_le_bytes-to_le_bytes_2 number fits

none_when : (found all : ℕ) → found ≡ all → ◌≡◌ {A = Option ℕ} (if found == all then None else Some found) None
none_when found all same = ap (λ (is : Bool). let o : Option ℕ = if is then None else Some found in o) (eq-eqb found all same)

some_when : (found number all : ℕ) → found ≡ number → number < all → ◌≡◌ {A = Option ℕ} (if found == all then None else Some found) (Some number)
some_when found number all same less =
    let differs : (found == all) ≡ false = grind (arith, nat_tests) in
    ap (λ (is : Bool). let o : Option ℕ = if is then None else Some found in o) differs ∙ ap Some same

pub some_four_is : (bytes : List ℕ) (place : ℕ) (number : Option ℕ) → IsSmall number → part bytes place 4 ≡ four_or_none number → some_four_at bytes place ≡ number
unfolding some_four_at
some_four_is bytes place None small stands = none_when (four_at bytes place) 4294967295 (four_is bytes place 4294967295 (omega arith) stands)
some_four_is bytes place (Some number) small stands = some_when (four_at bytes place) number 4294967295 (four_is bytes place number (omega arith) stands) small

pub some_two_is : (bytes : List ℕ) (place : ℕ) (number : Option ℕ) → IfSome number (λ number. number < 65535) → part bytes place 2 ≡ two_or_none number → some_two_at bytes place ≡ number
unfolding some_two_at
some_two_is bytes place None small stands = none_when (two_at bytes place) 65535 (two_is bytes place 65535 (omega arith) stands)
some_two_is bytes place (Some number) small stands = some_when (two_at bytes place) number 65535 (two_is bytes place number (omega arith) stands) small

-- a byte of a text that stands in a text
pub byte_within : (bytes text : List ℕ) (place width at from : ℕ) → part bytes place width ≡ text → at ≡ place + from → from < width → byte_at bytes at ≡ get_or text from 0
unfolding part byte_at
byte_within bytes text place width at from stands here inside =
    ap (λ (start : ℕ). get_or bytes start 0) here
    ∙ sym (get_or-drop place bytes from 0)
    ∙ sym (get_or-take width (drop place bytes) from 0 inside)
    ∙ ap (λ list. get_or list from 0) stands
