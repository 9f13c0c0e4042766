-- Bytes that are cut into pieces.
use Rattle.std.proofs.Common.{◌≡◌, ℕ, List, [], ◌∷◌, ◌++◌, length, map, refl, sym, ◌∙◌, ap}
use Rattle.std.specs.List.{concat}
use Rattle.std.proofs.lemmas.List.{append-nil, map-append, take_at, drop_at}
use Rattle.std.proofs.lemmas.List.Folds.{concat-append}
use Rattle.ctl_net.specs.Cut.{cut}

-- pieces that are joined and cut again
pub cut_joined : (pieces : List (List ℕ)) → cut (map length pieces) (concat pieces) ≡ pieces
cut_joined [] = refl
cut_joined (piece ∷ pieces) =
    rw (take_at piece (concat pieces) (length piece) refl)
    (rw (drop_at piece (concat pieces) (length piece) refl)
    (ap (λ (rest : List (List ℕ)). piece ∷ rest) (cut_joined pieces)))

-- the bytes with one more piece behind them are its pieces, joined
pub joined_more : (ns bytes more : List ℕ) → concat (cut ns bytes) ≡ bytes → bytes ++ more ≡ concat (cut ns bytes ++ more ∷ [])
joined_more ns bytes more whole =
    ap (λ (xs : List ℕ). xs ++ more) (sym whole) ∙ (ap (λ (xs : List ℕ). concat (cut ns bytes) ++ xs) (sym (append-nil more)) ∙ sym (concat-append (cut ns bytes) (more ∷ [])))

-- one more piece behind those that make up the bytes
pub cut_more : (ns bytes more : List ℕ) → concat (cut ns bytes) ≡ bytes → map length (cut ns bytes) ≡ ns → cut (ns ++ length more ∷ []) (bytes ++ more) ≡ cut ns bytes ++ more ∷ []
cut_more ns bytes more whole sized =
    let pieces : List (List ℕ) = cut ns bytes ++ more ∷ [] in
    let lengths : ns ++ length more ∷ [] ≡ map length pieces = ap (λ (xs : List ℕ). xs ++ length more ∷ []) (sym sized) ∙ sym (map-append length (cut ns bytes) (more ∷ [])) in
    ap (λ (xs : List ℕ). cut xs (bytes ++ more)) lengths ∙ ap (λ (xs : List ℕ). cut (map length pieces) xs) (joined_more ns bytes more whole) ∙ cut_joined pieces

-- the lengths of those pieces
pub lengths_more : (ns bytes more : List ℕ) → map length (cut ns bytes) ≡ ns → map length (cut ns bytes ++ more ∷ []) ≡ ns ++ length more ∷ []
lengths_more ns bytes more sized = map-append length (cut ns bytes) (more ∷ []) ∙ ap (λ (xs : List ℕ). xs ++ length more ∷ []) sized
