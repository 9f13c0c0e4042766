-- The numbers that stand at a place of a text.
use Rattle.std.proofs.Common.{◌≡◌, ℕ, ◌+◌, ◌≤◌, List, [], ◌∷◌, length, take, drop, get_or, ap, ◌∙◌, arith}
use Rattle.std.proofs.lemmas.List.{drop_more}

pub front_two : (bytes : List ℕ) (place : ℕ) → place + 2 ≤ length bytes → take 2 (drop place bytes) ≡ get_or bytes place 0 ∷ get_or bytes (place + 1) 0 ∷ []
front_two bytes place inside =
    let first : drop place bytes ≡ get_or bytes place 0 ∷ drop (place + 1) bytes = drop_more bytes place 0 (omega arith) in
    let second : drop (place + 1) bytes ≡ get_or bytes (place + 1) 0 ∷ drop (place + 1 + 1) bytes = drop_more bytes (place + 1) 0 (omega arith) in
    ap (take 2) (first ∙ ap (λ rest. get_or bytes place 0 ∷ rest) second)

pub front_four : (bytes : List ℕ) (place : ℕ) → place + 4 ≤ length bytes → take 4 (drop place bytes) ≡ get_or bytes place 0 ∷ get_or bytes (place + 1) 0 ∷ get_or bytes (place + 2) 0 ∷ get_or bytes (place + 3) 0 ∷ []
front_four bytes place inside =
    let first : drop place bytes ≡ get_or bytes place 0 ∷ drop (place + 1) bytes = drop_more bytes place 0 (omega arith) in
    let second : drop (place + 1) bytes ≡ get_or bytes (place + 1) 0 ∷ drop (place + 2) bytes = drop_more bytes (place + 1) 0 (omega arith) ∙ ap (λ (next : ℕ). get_or bytes (place + 1) 0 ∷ drop next bytes) (omega arith) in
    let third : drop (place + 2) bytes ≡ get_or bytes (place + 2) 0 ∷ drop (place + 3) bytes = drop_more bytes (place + 2) 0 (omega arith) ∙ ap (λ (next : ℕ). get_or bytes (place + 2) 0 ∷ drop next bytes) (omega arith) in
    let fourth : drop (place + 3) bytes ≡ get_or bytes (place + 3) 0 ∷ drop (place + 3 + 1) bytes = drop_more bytes (place + 3) 0 (omega arith) in
    ap (take 4)
    (first
    ∙ ap (λ rest. get_or bytes place 0 ∷ rest)
    (second ∙ ap (λ rest. get_or bytes (place + 1) 0 ∷ rest) (third ∙ ap (λ rest. get_or bytes (place + 2) 0 ∷ rest) fourth)))
