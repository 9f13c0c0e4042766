-- The pieces of bytes, one after another.
use Rattle.std.proofs.Common.{◌≡◌, ℕ, zero, suc, ◌+◌, ◌-◌, ◌*◌, ◌≤◌, ◌<◌, true, false, leb, List, [], ◌∷◌, ◌++◌, map, flat_map, length, take, drop, min, refl, sym, ap, ◌∙◌, arith, length-drop}
use Rattle.std.proofs.lemmas.Bool.{leb-true, leb-false}
use Rattle.std.specs.List.{range_with_len}
use Rattle.std.proofs.lemmas.List.{append-nil, map-append, drop-take, take-take, take-append-drop, take_all}
use Rattle.std.proofs.lemmas.List.Concat.{flat_map-append}
use Rattle.ctl_net.specs.LinkEvents.{bytes_of}
use Rattle.ctl_net.specs.declared.link_event.LinkEvent.TheVariants.{Piece}
use Rattle.drill.specs.Pieces.{in_pieces, piece_at, piece_count, piece_len}
use Rattle.drill.proofs.StreamLemmas.{range_push}

-- one number more
pub map_more : {A : Type 0} (f : ℕ → A) (count : ℕ) → map f (range_with_len 0 (count + 1)) ≡ map f (range_with_len 0 count) ++ f count ∷ []
map_more f count =
    let next : count + 1 ≡ suc count = omega arith in
    let last : 0 + count ≡ count = omega arith in
    ap (λ (n : ℕ). map f (range_with_len 0 n)) next
    ∙ (ap (map f) (range_push 0 count) ∙ (map-append f (range_with_len 0 count) ((0 + count) ∷ []) ∙ ap (λ (n : ℕ). map f (range_with_len 0 count) ++ f n ∷ []) last))

-- the bytes of so many pieces
pieces_front : (bytes : List ℕ) (count : ℕ) → flat_map (piece_at bytes) (range_with_len 0 count) ≡ take (count * piece_len) bytes
pieces_front bytes zero = refl
pieces_front bytes (suc count) =
    let last : 0 + count ≡ count = omega arith in
    let front = count * piece_len in
    let far : front + piece_len ≡ suc count * piece_len = omega arith in
    let rest : drop front (take (front + piece_len) bytes) ≡ piece_at bytes count = drop-take front piece_len bytes in
    let begun : take front (take (front + piece_len) bytes) ≡ take front bytes = take-take front (front + piece_len) bytes (omega arith) in
    let both : take (front + piece_len) bytes ≡ take front bytes ++ piece_at bytes count =
    sym (take-append-drop front (take (front + piece_len) bytes)) ∙ ap (λ (begin : List ℕ). begin ++ drop front (take (front + piece_len) bytes)) begun ∙ ap (λ (end : List ℕ). take front bytes ++ end) rest in
    ap (flat_map (piece_at bytes)) (range_push 0 count)
    ∙ flat_map-append (piece_at bytes) (range_with_len 0 count) ((0 + count) ∷ [])
    ∙ ap (λ (end : List ℕ). flat_map (piece_at bytes) (range_with_len 0 count) ++ end) (append-nil (piece_at bytes (0 + count)) ∙ ap (piece_at bytes) last)
    ∙ ap (λ (begin : List ℕ). begin ++ piece_at bytes count) (pieces_front bytes count)
    ∙ sym both
    ∙ ap (λ (n : ℕ). take n bytes) far

pieces_joined : (bytes : List ℕ) (ats : List ℕ) → bytes_of (map (λ at. Piece (piece_at bytes at)) ats) ≡ flat_map (piece_at bytes) ats
pieces_joined bytes [] = refl
pieces_joined bytes (at ∷ ats) = ap (λ (more : List ℕ). piece_at bytes at ++ more) (pieces_joined bytes ats)

-- The pieces are all the bytes.
pub pieces_are_all : (bytes : List ℕ) → bytes_of (in_pieces bytes) ≡ bytes
pieces_are_all bytes =
    pieces_joined bytes (range_with_len 0 (piece_count bytes)) ∙ pieces_front bytes (piece_count bytes) ∙ take_all (piece_count bytes * piece_len) bytes (omega arith)

-- what is taken of the bytes behind a place, where that is as many as a piece has, or as there are
pub piece_is : (bytes : List ℕ) (start n : ℕ) → n ≡ min (length (take (length bytes - start) (drop start bytes))) piece_len → take n (take (length bytes - start) (drop start bytes)) ≡ take piece_len (drop start bytes)
piece_is bytes start n is =
    let rest = drop start bytes in
    let all : take (length bytes - start) rest ≡ rest = take_all (length bytes - start) rest (omega (arith, length-drop start bytes)) in
    let count : n ≡ min (length rest) piece_len = is ∙ ap (λ (rest : List ℕ). min (length rest) piece_len) all in
    ap (take n) all ∙ ap (λ (k : ℕ). take k rest) count ∙ take_min rest
  where
    take_min : (rest : List ℕ) → take (min (length rest) piece_len) rest ≡ take piece_len rest
    take_min rest = elim (leb (length rest) piece_len) as (λ b. leb (length rest) piece_len ≡ b → take (min (length rest) piece_len) rest ≡ take piece_len rest) [
      | true ↦ λ fits.
          let few : length rest ≤ piece_len = leb-true (length rest) piece_len fits in
          take_all (min (length rest) piece_len) rest (omega arith) ∙ sym (take_all piece_len rest few)
      | false ↦ λ longer.
          let more : piece_len < length rest = leb-false (length rest) piece_len longer in
          let is : min (length rest) piece_len ≡ piece_len = omega arith in
          ap (λ (k : ℕ). take k rest) is
    ] refl
