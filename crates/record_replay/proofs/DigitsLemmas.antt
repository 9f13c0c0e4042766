-- Hexadecimal without spaces.
use Rattle.std.proofs.Common.{◌≡◌, ◌≢◌, ℕ, ◌+◌, ◌*◌, ◌/◌, ◌%◌, ◌<◌, List, [], ◌∷◌, ◌++◌, length, take, drop, slice_index, refl, sym, ◌∙◌, ap, true, Ok, arith}
use Rattle.std.specs.Prelude.{filter, ◌==◌, not}
use Rattle.std.specs.List.{AllPass}
use Rattle.std.proofs.Math.Seq.{take-append_seam}
use Rattle.std.proofs.lemmas.Bool.Decides.{nat_tests}
use Rattle.std.proofs.lemmas.List.Elements.{All-head, All-tail}
use Rattle.std.proofs.lemmas.List.{append-nil, drop_all}
use Rattle.hex.specs.Hex.{decode_of, decode_pairs, is_hex_digit}
use Rattle.hex.proofs.HexLemmas.{decode_of-even, decode_of-ok}
use Rattle.hex.proofs.Pairs.{prepend, decode_err}
use Rattle.record_replay.specs.Script.{space, HexSpells}
use Rattle.record_replay.specs.LineInside.{IsNoHex}
use Rattle.record_replay.proofs.PairsLemmas.{pair_fault}

abbrev IsHexDigit : ℕ → Type 0
IsHexDigit byte = is_hex_digit byte ≡ true

-- a digit isn't a space
kept-digit : (byte : ℕ) → is_hex_digit byte ≡ true → not (byte == space) ≡ true
kept-digit byte digit = grind (arith, nat_tests)

-- digits keep all
filter-digits : (text : List ℕ) → AllPass is_hex_digit text → filter (λ byte. not (byte == space)) text ≡ text
filter-digits [] each = refl
filter-digits (byte ∷ text) each =
    rw (kept-digit byte (All-head IsHexDigit byte text each)) (ap (λ (more : List ℕ). byte ∷ more) (filter-digits text (All-tail IsHexDigit byte text each)))

-- what decodes where it stands
pub HexSpells-whole : (hex bytes : List ℕ) → decode_of hex ≡ Ok bytes → HexSpells hex bytes
HexSpells-whole hex bytes is = rw (filter-digits hex (decode_of-ok hex bytes is).1) is

-- the items of room that was written whole
pub items-whole : (len : ℕ) (items before : List ℕ) → length items ≡ len → take len (items ++ drop (length items) before) ≡ items
items-whole len items before is = ap (λ (n : ℕ). take n (items ++ drop (length items) before)) (sym is) ∙ take-append_seam items (drop (length items) before)

-- digits of which a pair is refused spell nothing
pub decode_of-refused : (digits room : List ℕ) (i : ℕ) → length digits % 2 ≢ 1 → i < length digits / 2
    → IsNoHex (slice_index digits (2 * i) ∷ slice_index digits (2 * i + 1) ∷ [])
    → decode_pairs 0 digits ≡ prepend (take i room) (decode_pairs (2 * i) (drop (2 * i) digits))
    → (bytes : List ℕ) → decode_of digits ≡ Ok bytes → ⊥
decode_of-refused digits room i even below none so_far bytes is =
    let refused = pair_fault (slice_index digits (2 * i)) (slice_index digits (2 * i + 1)) none (2 * i) in
    let fault = decode_of-even digits (omega arith) ∙ decode_err digits room i refused.0 (omega arith) refused.1 so_far in
    cc (is, fault)

-- all pairs are decoded
pub decode_of-all : (digits room : List ℕ) (i : ℕ) → length digits % 2 ≢ 1 → i ≡ length digits / 2
    → decode_pairs 0 digits ≡ prepend (take i room) (decode_pairs (2 * i) (drop (2 * i) digits))
    → decode_of digits ≡ Ok (take (length digits / 2) room)
unfolding decode_pairs
decode_of-all digits room i even is so_far =
    decode_of-even digits (omega arith) ∙ so_far ∙ ap (λ (rest : List ℕ). prepend (take i room) (decode_pairs (2 * i) rest)) (drop_all (2 * i) digits (omega arith))
    ∙ ap (λ (bytes : List ℕ). Ok bytes) (append-nil (take i room) ∙ ap (λ (n : ℕ). take n room) is)
