-- A text that is cut at a byte.
use Rattle.std.proofs.Common.{◌≡◌, ◌≢◌, ℕ, ◌⊎◌, inl, inr, List, [], ◌∷◌, ◌++◌, refl, ap}
use Rattle.std.proofs.lemmas.Bool.{cases_eq}
use Rattle.std.proofs.lemmas.List.Elements.{All-nil, All-cons, All-head, All-tail}
use Rattle.line_text.specs.Cut.{HasNo, IsCut}

-- another byte than this one
abbrev OtherThan : ℕ → ℕ → Type 0
OtherThan byte other = other ≢ byte

-- a text is cut in one way at the first of a byte
pub one_cut : (byte : ℕ) (front others behind rest : List ℕ) → HasNo byte front → HasNo byte others → front ++ byte ∷ behind ≡ others ++ byte ∷ rest → (front ≡ others) × (behind ≡ rest)
one_cut byte [] [] behind rest none none_others same = (refl, cc)
one_cut byte [] (other ∷ others) behind rest none none_others same = let is : other ≡ byte = cc in absurd (All-head (OtherThan byte) other others none_others is)
one_cut byte (first ∷ front) [] behind rest none none_others same = let is : first ≡ byte = cc in absurd (All-head (OtherThan byte) first front none is)
one_cut byte (first ∷ front) (other ∷ others) behind rest none none_others same =
    let more : front ++ byte ∷ behind ≡ others ++ byte ∷ rest = cc in
    let parts = one_cut byte front others behind rest (All-tail (OtherThan byte) first front none) (All-tail (OtherThan byte) other others none_others) more in
    (cc, parts.1)

-- a text that is cut has the byte
pub has_byte : (byte : ℕ) (front behind : List ℕ) → HasNo byte (front ++ byte ∷ behind) → ⊥
has_byte byte [] behind none = All-head (OtherThan byte) byte behind none refl
has_byte byte (first ∷ front) behind none = has_byte byte front behind (All-tail (OtherThan byte) first (front ++ byte ∷ behind) none)

-- a text is cut at the first of a byte, or has none
pub cut_of : (byte : ℕ) (text : List ℕ) → ((front behind : List ℕ) × IsCut byte text front behind) ⊎ HasNo byte text
cut_of byte [] = inr (All-nil (OtherThan byte))
cut_of byte (first ∷ text) = elim (cases_eq first byte) [
  | inl is ↦ inl ([], text, record { place = ap (λ (first : ℕ). first ∷ text) is; first = All-nil (OtherThan byte) })
  | inr isnt ↦ elim (cut_of byte text) [
    | inl cut ↦ inl (first ∷ cut.0, cut.1, record { place = ap (λ (more : List ℕ). first ∷ more) cut.2.place; first = All-cons (OtherThan byte) first cut.0 isnt cut.2.first })
    | inr none ↦ inr (All-cons (OtherThan byte) first text isnt none)
  ]
]
