-- The front of a body that goes on.
use Rattle.std.proofs.Common.{◌≡◌, ℕ, ◌+◌, ◌-◌, ◌%◌, ◌≤◌, ◌<◌, min, List, [], ◌∷◌, ◌++◌, length, take, drop, set, sum, refl, sym, ap, ◌∙◌, append_assoc, length-append, arith}
use borrow.Rule.Slice.PartMut.{mid_of, put_mid, mid_len}
use Rattle.std.proofs.lemmas.List.{length_push, length-take-le, take_all, take_at, take_min, take_more_set, take-take, length-take}
use Rattle.std.proofs.lemmas.List.Concat.{flat_map-append}
use Rattle.std.proofs.lemmas.Slice.{take-put_mid}
use Rattle.std.proofs.lemmas.List.Sums.{sum_by-append}
use Rattle.std.proofs.Math.Seq.{take-add, take-append-add}
use Rattle.dle_framing.specs.Numbers.{most_kept}
use Rattle.dle_framing.specs.Frame.{doubled}

-- a byte at the end of a front that isn't full
pub front-push : (bytes old : List ℕ) (len byte : ℕ) → take len bytes ≡ old → len < most_kept → length bytes ≡ most_kept → take (len + 1) (set bytes len byte) ≡ take most_kept (old ++ byte ∷ [])
front-push bytes old len byte is room full =
    let count : length old ≡ len = ap (length {A = ℕ}) (sym is) ∙ length-take-le len bytes (omega arith) in
    take_more_set bytes len byte (omega arith)
    ∙ ap (λ (front : List ℕ). front ++ byte ∷ []) is
    ∙ sym (take_all most_kept (old ++ byte ∷ []) (omega (arith, length_push old byte)))

-- a full front stays
pub front-full : (old more : List ℕ) → length old ≡ most_kept → old ≡ take most_kept (old ++ more)
front-full old more full = sym (take_at old more most_kept full)

-- a front goes on by as many bytes as there is room for
pub front-extend : (old more : List ℕ) (n : ℕ) → n ≡ min (length more) (most_kept - length old) → length old ≤ most_kept → old ++ take n more ≡ take most_kept (old ++ more)
front-extend old more n is within =
    let k : ℕ = most_kept - length old in
    let count : n ≡ min k (length more) = omega arith in
    let all : length old + k ≡ most_kept = omega arith in
    ap (λ (n : ℕ). old ++ take n more) count
    ∙ ap (λ (more : List ℕ). old ++ more) (take_min k more)
    ∙ sym (take-append-add old more k)
    ∙ ap (λ (n : ℕ). take n (old ++ more)) all

-- what stands in front of a place behind which a part was written anew
front-written : (a k n : ℕ) (xs ys : List ℕ) → a ≤ length xs → n ≤ length ys → take (a + n) (put_mid a k xs ys) ≡ take a xs ++ take n ys
front-written a k n xs ys within few =
    sym (take-take (a + n) (a + length ys) (put_mid a k xs ys) (omega arith))
    ∙ ap (take (a + n)) (take-put_mid a k xs ys (a + length ys) refl within)
    ∙ ap (λ (m : ℕ). take (m + n) (take a xs ++ ys)) (sym (length-take-le a xs within))
    ∙ take-append-add (take a xs) ys n

-- the sum modulo 256 of a front that goes on
pub total-more : (total more_total : ℕ) (front more joined : List ℕ) → joined ≡ front ++ more → total ≡ sum front % 256 → more_total ≡ (total + sum more) % 256 → more_total ≡ sum joined % 256
total-more total more_total front more joined is so goes_on =
    let whole : sum joined ≡ sum front + sum more = ap sum is ∙ sum_by-append (λ byte. byte) front more in
    omega arith

-- the same by the sum modulo 256 of what it goes on by
pub total-part : (total part : ℕ) (front more joined : List ℕ) → joined ≡ front ++ more → total ≡ sum front % 256 → part ≡ sum more % 256 → (total + part) % 256 ≡ sum joined % 256
total-part total part front more joined is so goes_on =
    let whole : sum joined ≡ sum front + sum more = ap sum is ∙ sum_by-append (λ byte. byte) front more in
    omega arith

-- Of a text's run the first bytes, `part`, are taken one by one, and what is left, `left`, at once.
pub record Parts (text part left : List ℕ) (near count : ℕ) : Type 0 where
  pub part_is : part ≡ take near text
  pub left_is : left ≡ drop count text
  pub all_near : count ≡ near

part-count : (text part left : List ℕ) (near count : ℕ) → Parts text part left near count → take count part ≡ take count text
part-count text part left near count parts = ap (take count) parts.part_is ∙ take-take count near text (omega (arith, parts.all_near))

pub run-single : (text part left : List ℕ) (near count m : ℕ) → Parts text part left near count → doubled (take count part) ≡ take count part → doubled (take m left) ≡ take m left
    → doubled (take (count + m) text) ≡ take (count + m) text
run-single text part left near count m parts first second =
    let both : take (count + m) text ≡ take count part ++ take m left =
    take-add count m text ∙ ap (λ (front : List ℕ). front ++ take m (drop count text)) (sym (part-count text part left near count parts))
    ∙ ap (λ (left : List ℕ). take count part ++ take m left) (sym parts.left_is) in
    ap doubled both ∙ flat_map-append _ (take count part) (take m left) ∙ ap (λ (front : List ℕ). front ++ doubled (take m left)) first
    ∙ ap (λ (back : List ℕ). take count part ++ back) second ∙ sym both

pub run-front : (old first new text part left : List ℕ) (near count m : ℕ) → Parts text part left near count → first ≡ old ++ take count part → new ≡ take most_kept (first ++ take m left)
    → new ≡ take most_kept (old ++ take (count + m) text)
run-front old first new text part left near count m parts near_is far_is =
    let both : take (count + m) text ≡ take count part ++ take m left =
    take-add count m text ∙ ap (λ (front : List ℕ). front ++ take m (drop count text)) (sym (part-count text part left near count parts))
    ∙ ap (λ (left : List ℕ). take count part ++ take m left) (sym parts.left_is) in
    far_is
    ∙ ap (λ (front : List ℕ). take most_kept (front ++ take m left)) near_is
    ∙ ap (take most_kept) (append_assoc old (take count part) (take m left))
    ∙ ap (λ (back : List ℕ). take most_kept (old ++ back)) (sym both)

-- all of a run was taken one by one
pub run-near : (old new text part : List ℕ) (near count : ℕ) → part ≡ take near text → count ≤ near → new ≡ old ++ take count part → length old + near ≤ most_kept → new ≡ take most_kept (old ++ take count text)
run-near old new text part near count is few taken room =
    let same : take count part ≡ take count text = ap (take count) is ∙ take-take count near text few in
    taken
    ∙ ap (λ (back : List ℕ). old ++ back) same
    ∙ sym (take_all most_kept (old ++ take count text) (omega (arith, length-append old (take count text), length-take count text)))

-- what a front is once bytes were copied behind it
pub front-grown : (front bytes into text : List ℕ) (len n : ℕ) → take len bytes ≡ front → length bytes ≡ most_kept → len ≤ most_kept → length into ≡ length (mid_of len (most_kept - len) bytes) → length front + n ≤ most_kept
    → take n into ≡ take n text → take (len + n) (put_mid len (most_kept - len) bytes into) ≡ front ++ take n text
front-grown front bytes into text len n is full within room few copied =
    let count : length front ≡ len = ap (length {A = ℕ}) (sym is) ∙ length-take-le len bytes (omega arith) in
    front-written len (most_kept - len) n bytes into (omega arith) (omega (arith, mid_len len most_kept bytes (omega arith)))
    ∙ ap (λ (front : List ℕ). front ++ take n into) is
    ∙ ap (λ (back : List ℕ). front ++ back) copied
