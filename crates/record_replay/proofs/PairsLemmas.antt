-- Pairs of hexadecimal digits, read one by one.
use Rattle.std.proofs.Common.{◌≡◌, ℕ, ◌+◌, ◌*◌, ◌%◌, ◌^◌, ◌<◌, ◌≤◌, List, [], ◌∷◌, ◌++◌, length, take, get_or, slice_index, slice_set, Option, Some, None, Result, Ok, Err, refl, sym, ◌∙◌, ap, length-append, arith}
use Rattle.std.specs.Result.{result_unwrap_or}
use Rattle.std.proofs.lemmas.List.{append_assoc, take_more, take_more_set}
use Rattle.hex.specs.Hex.{decode_of, decode_pairs, hex_digit_value, pair_value}
use Rattle.hex.specs.declared.error.FromHexError.{FromHexError}
use Rattle.hex.specs.declared.error.FromHexError.TheVariants.{InvalidHexCharacter}
use Rattle.hex.proofs.HexLemmas.{decode_of-even, decode_of-ok}
use Rattle.hex.proofs.Pairs.{cons_byte, decode_pairs-ok_pair, decode_pairs-err_pair}
use Rattle.record_replay.specs.LineInside.{IsNoHex}
use Rattle.record_replay.specs.PairsInside.{AreRead, ArePairs, high_of, low_of}

-- a pair behind pairs
more_by : (i a b v : ℕ) (s bytes : List ℕ) → ((j : ℕ) → pair_value a b j ≡ Ok v) → decode_pairs i s ≡ Ok bytes → decode_pairs i (s ++ a ∷ b ∷ []) ≡ Ok (bytes ++ v ∷ [])
unfolding decode_pairs
more_by i a b v [] bytes pair read =
    let none : [] ≡ bytes = ap (λ (r : Result (List ℕ) FromHexError). result_unwrap_or r []) read in
    decode_pairs-ok_pair i a b v [] (pair i) ∙ ap (λ (front : List ℕ). Ok (front ++ v ∷ [])) none
more_by i a b v (x ∷ []) bytes pair read = cc read
more_by i a b v (x ∷ y ∷ s) bytes pair read = by_pair (λ more rest. more_by (i + 2) a b v s more pair rest) (pair_value x y i) refl
  where
    by_rest : ((more : List ℕ) → decode_pairs (i + 2) s ≡ Ok more → decode_pairs (i + 2) (s ++ a ∷ b ∷ []) ≡ Ok (more ++ v ∷ [])) → (u : ℕ) → pair_value x y i ≡ Ok u → (rest : Result (List ℕ) FromHexError) → decode_pairs (i + 2) s ≡ rest → decode_pairs i (x ∷ y ∷ (s ++ a ∷ b ∷ [])) ≡ Ok (bytes ++ v ∷ [])
    by_rest again u first (Err fault) rest = cc (sym read ∙ decode_pairs-ok_pair i x y u s first ∙ ap (cons_byte u) rest)
    by_rest again u first (Ok more) rest =
        let whole : u ∷ more ≡ bytes = ap (λ (r : Result (List ℕ) FromHexError). result_unwrap_or r []) (sym (decode_pairs-ok_pair i x y u s first ∙ ap (cons_byte u) rest) ∙ read) in
        decode_pairs-ok_pair i x y u (s ++ a ∷ b ∷ []) first ∙ ap (cons_byte u) (again more rest)
        ∙ ap (λ (front : List ℕ). Ok (front ++ v ∷ [])) whole

    by_pair : ((more : List ℕ) → decode_pairs (i + 2) s ≡ Ok more → decode_pairs (i + 2) (s ++ a ∷ b ∷ []) ≡ Ok (more ++ v ∷ [])) → (first : Result ℕ FromHexError) → pair_value x y i ≡ first → decode_pairs i (x ∷ y ∷ (s ++ a ∷ b ∷ [])) ≡ Ok (bytes ++ v ∷ [])
    by_pair again (Err fault) first = cc (sym read ∙ decode_pairs-err_pair i x y fault s first)
    by_pair again (Ok u) first = by_rest again u first (decode_pairs (i + 2) s) refl

-- two digits are a pair at each place
pub pair_at : (a b v : ℕ) → decode_of (a ∷ b ∷ []) ≡ Ok (v ∷ []) → (j : ℕ) → pair_value a b j ≡ Ok v
unfolding decode_pairs
pair_at a b v read j = by_values (hex_digit_value a) (hex_digit_value b) refl refl
  where
    by_values : (h l : Option ℕ) → hex_digit_value a ≡ h → hex_digit_value b ≡ l → pair_value a b j ≡ Ok v
    by_values (Some h) (Some l) is_h is_l =
        let first : pair_value a b 0 ≡ Ok (h * 16 + l) = rw (is_h, is_l) refl in
        let whole : (h * 16 + l) ∷ [] ≡ v ∷ [] = ap (λ (r : Result (List ℕ) FromHexError). result_unwrap_or r []) (sym (decode_pairs-ok_pair 0 a b (h * 16 + l) [] first) ∙ read) in
        let same : h * 16 + l ≡ v = ap (λ (l : List ℕ). get_or l 0 0) whole in
        rw (is_h, is_l) (ap (λ (n : ℕ). Ok n) same)
    by_values None l is_h is_l = let fault : decode_of (a ∷ b ∷ []) ≡ Err (InvalidHexCharacter a 0) = rw is_h refl in cc (sym read ∙ fault)
    by_values (Some h) None is_h is_l = let fault : decode_of (a ∷ b ∷ []) ≡ Err (InvalidHexCharacter b 1) = rw (is_h, is_l) refl in cc (sym read ∙ fault)

-- what two digits make is a byte
pub pair_fits : (a b v : ℕ) → decode_of (a ∷ b ∷ []) ≡ Ok (v ∷ []) → v < 256
pair_fits a b v read = (decode_of-ok (a ∷ b ∷ []) (v ∷ []) read).3 0

-- two digits behind digits
pub pair_more : (a b v : ℕ) (s bytes : List ℕ) → decode_of (a ∷ b ∷ []) ≡ Ok (v ∷ []) → decode_of s ≡ Ok bytes → decode_of (s ++ a ∷ b ∷ []) ≡ Ok (bytes ++ v ∷ [])
pair_more a b v s bytes pair read =
    let even = (decode_of-ok s bytes read).0 in
    decode_of-even (s ++ a ∷ b ∷ []) (omega (arith, length-append s (a ∷ b ∷ []), even))
    ∙ more_by 0 a b v s bytes (pair_at a b v pair) (sym (decode_of-even s even) ∙ read)

-- the front of a text with one pair more
take_pair : (at : ℕ) (text : List ℕ) → 2 * at + 1 < length text → take (2 * (at + 1)) text ≡ take (2 * at) text ++ slice_index text (2 * at) ∷ slice_index text (2 * at + 1) ∷ []
take_pair at text within =
    let two : 2 * (at + 1) ≡ 2 * at + 1 + 1 = omega arith in
    let front = take_more text (2 * at) 0 (omega arith) in
    let both = take_more text (2 * at + 1) 0 within in
    ap (λ (n : ℕ). take n text) two ∙ both ∙ ap (λ (l : List ℕ). l ++ slice_index text (2 * at + 1) ∷ []) front ∙ append_assoc (take (2 * at) text) (slice_index text (2 * at) ∷ []) (slice_index text (2 * at + 1) ∷ [])

-- one pair more is read
pub read_more : (at byte : ℕ) (text room : List ℕ) → 2 * at + 1 < length text → at < length room → decode_of (slice_index text (2 * at) ∷ slice_index text (2 * at + 1) ∷ []) ≡ Ok (byte ∷ [])
    → AreRead at text room → AreRead (at + 1) text (slice_set room at byte)
read_more at byte text room within has_room pair read =
    ap decode_of (take_pair at text within) ∙ pair_more _ _ byte (take (2 * at) text) (take at room) pair read
    ∙ ap (λ (bytes : List ℕ). Ok bytes) (sym (take_more_set room at byte has_room))

-- one pair more is digits
pub pairs_more : (at byte : ℕ) (text : List ℕ) → 2 * at + 1 < length text → decode_of (slice_index text (2 * at) ∷ slice_index text (2 * at + 1) ∷ []) ≡ Ok (byte ∷ [])
    → ArePairs at text → ArePairs (at + 1) text
pairs_more at byte text within pair (bytes, read) =
    (bytes ++ byte ∷ [], ap decode_of (take_pair at text within) ∙ pair_more _ _ byte (take (2 * at) text) bytes pair read)

-- a digit's value is below 16
value_small : (digit value : ℕ) → hex_digit_value digit ≡ Some value → value < 16
value_small digit value is = grind (arith)

-- what two bytes make by the tables
pub pair_made : (a b : ℕ) → (high_of a + low_of b) % 2 ^ 32 < 2 ^ 31 → decode_of (a ∷ b ∷ []) ≡ Ok ((high_of a + low_of b) % 2 ^ 32 ∷ [])
unfolding decode_pairs
pair_made a b small = by_values (hex_digit_value a) (hex_digit_value b) refl refl
  where
    by_values : (h l : Option ℕ) → hex_digit_value a ≡ h → hex_digit_value b ≡ l → decode_of (a ∷ b ∷ []) ≡ Ok ((high_of a + low_of b) % 2 ^ 32 ∷ [])
    by_values (Some h) (Some l) is_h is_l =
        let high : high_of a ≡ 16 * h = rw is_h refl in
        let low : low_of b ≡ l = rw is_l refl in
        let first : pair_value a b 0 ≡ Ok (h * 16 + l) = rw (is_h, is_l) refl in
        let whole : h * 16 + l ≡ (high_of a + low_of b) % 2 ^ 32 = omega (arith, high, low, value_small a h is_h, value_small b l is_l) in
        decode_pairs-ok_pair 0 a b (h * 16 + l) [] first ∙ ap (λ (n : ℕ). Ok (n ∷ [])) whole
    by_values None (Some l) is_h is_l =
        let high : high_of a ≡ 3221225472 = rw is_h refl in
        let low : low_of b ≡ l = rw is_l refl in
        absurd (omega (arith, high, low, value_small b l is_l, small))
    by_values None None is_h is_l =
        let high : high_of a ≡ 3221225472 = rw is_h refl in
        let low : low_of b ≡ 3221225472 = rw is_l refl in
        absurd (omega (arith, high, low, small))
    by_values (Some h) None is_h is_l =
        let high : high_of a ≡ 16 * h = rw is_h refl in
        let low : low_of b ≡ 3221225472 = rw is_l refl in
        absurd (omega (arith, high, low, value_small a h is_h, small))

-- two bytes that make more aren't both digits
pub pair_refused : (a b : ℕ) → 2 ^ 31 ≤ (high_of a + low_of b) % 2 ^ 32 → IsNoHex (a ∷ b ∷ [])
unfolding decode_pairs
pair_refused a b large bytes read = by_values (hex_digit_value a) (hex_digit_value b) refl refl
  where
    by_values : (h l : Option ℕ) → hex_digit_value a ≡ h → hex_digit_value b ≡ l → ⊥
    by_values (Some h) (Some l) is_h is_l =
        let high : high_of a ≡ 16 * h = rw is_h refl in
        let low : low_of b ≡ l = rw is_l refl in
        omega (arith, high, low, value_small a h is_h, value_small b l is_l, large)
    by_values None l is_h is_l = let fault : decode_of (a ∷ b ∷ []) ≡ Err (InvalidHexCharacter a 0) = rw is_h refl in cc (sym read ∙ fault)
    by_values (Some h) None is_h is_l = let fault : decode_of (a ∷ b ∷ []) ≡ Err (InvalidHexCharacter b 1) = rw (is_h, is_l) refl in cc (sym read ∙ fault)

-- what is no pair is refused at each place
pub pair_fault : (a b : ℕ) → IsNoHex (a ∷ b ∷ []) → (i : ℕ) → (fault : FromHexError) × (pair_value a b i ≡ Err fault)
unfolding decode_pairs
pair_fault a b none i = by_values (hex_digit_value a) (hex_digit_value b) refl refl
  where
    by_values : (h l : Option ℕ) → hex_digit_value a ≡ h → hex_digit_value b ≡ l → (fault : FromHexError) × (pair_value a b i ≡ Err fault)
    by_values (Some h) (Some l) is_h is_l =
        let first : pair_value a b 0 ≡ Ok (h * 16 + l) = rw (is_h, is_l) refl in
        absurd (none ((h * 16 + l) ∷ []) (decode_pairs-ok_pair 0 a b (h * 16 + l) [] first))
    by_values None l is_h is_l = (InvalidHexCharacter a i, rw is_h refl)
    by_values (Some h) None is_h is_l = (InvalidHexCharacter b (i + 1), rw (is_h, is_l) refl)
