-- How hexadecimal is appended, and the table of its digits.
use Rattle.std.proofs.Common.{◌≡◌, ℕ, zero, suc, ◌+◌, ◌/◌, ◌%◌, ◌<◌, ◌≤◌, Bool, true, ◌&&◌, ◌==◌, List, [], ◌∷◌, ◌++◌, length, drop, get_or, add-one, drop-cons, refl, sym, ap, ◌∙◌, arith, inl, inr}
use Rattle.std.proofs.lemmas.List.{append-nil, append_assoc, drop_all}
use Rattle.std.proofs.lemmas.Bool.{and_parts, cases_eq, eqb-true}
use Rattle.hex.specs.Hex.{encode_with}

-- the digits of one byte more
encode_with-drop : (table bytes : List ℕ) (at : ℕ) → at < length bytes → encode_with table (drop at bytes)
    ≡ get_or table (get_or bytes at 0 / 16) 0 ∷ get_or table (get_or bytes at 0 % 16) 0 ∷ encode_with table (drop (at + 1) bytes)
unfolding encode_with
encode_with-drop table bytes at within = rw (add-one, drop-cons bytes at 0) refl

pub hex-step : (table bytes out whole : List ℕ) (at high low : ℕ) → at < length bytes
    → high ≡ get_or table (get_or bytes at 0 / 16) 0 → low ≡ get_or table (get_or bytes at 0 % 16) 0
    → out ++ encode_with table (drop at bytes) ≡ whole
    → out ++ high ∷ [] ++ low ∷ [] ++ encode_with table (drop (at + 1) bytes) ≡ whole
hex-step table bytes out whole at high low within high_is low_is is =
    rw (high_is, low_is) (simp append_assoc (ap (λ (more : List ℕ). out ++ more) (sym (encode_with-drop table bytes at within)) ∙ is))

pub hex-done : (table bytes out whole : List ℕ) (at : ℕ) → length bytes ≤ at → out ++ encode_with table (drop at bytes) ≡ whole → out ≡ whole
unfolding encode_with
hex-done table bytes out whole at done is =
    let none : drop at bytes ≡ [] = drop_all at bytes done in
    sym (append-nil out) ∙ ap (λ (more : List ℕ). out ++ encode_with table more) (sym none) ∙ is

-- whether two functions agree below n
unfoldable pub agree_below : (ℕ → ℕ) → (ℕ → ℕ) → ℕ → Bool
agree_below f g zero = true
agree_below f g (suc n) = f n == g n && agree_below f g n

pub agree_at : (f g : ℕ → ℕ) (n : ℕ) → agree_below f g n ≡ true → (byte : ℕ) → byte < n → f byte ≡ g byte
unfolding agree_below
agree_at f g zero all byte below = absurd (omega arith)
agree_at f g (suc n) all byte below =
    let both = and_parts (f n == g n) (agree_below f g n) all in
    elim (cases_eq byte n) [ inl same ↦ rw same (eqb-true (f n) (g n) both.0) | inr other ↦ agree_at f g n both.1 byte (omega arith) ]
