-- Default names are names, and those of one letter differ.
use Rattle.std.proofs.Common.{◌≡◌, ℕ, ◌+◌, ◌%◌, ◌<◌, ◌^◌, bytes_eq, List, [], ◌∷◌, All, map, arith}
use Rattle.std.specs.Fmt.{decimal}
use Rattle.std.specs.List.{range_with_len, IsDistinct}
use Rattle.std.proofs.lemmas.Fmt.{decimal_by_steps, decimal_injective, length-decimal-le}
use Rattle.std.proofs.lemmas.List.Elements.{All-cons, All-nil, All-push}
use Rattle.std.proofs.lemmas.List.FromFn.{get_or-map-range_with_len, length-map-range_with_len}
use Rattle.std.proofs.lemmas.Map.Made.{IsDistinct-from_AllPairs}
use Rattle.std.proofs.lemmas.Slice.Eq.{bytes_eq-Decides}
use Rattle.plant_file.specs.Ranges.{IsFrom, IsName}

-- a default name, by the byte that is its letter
abbrev name : ℕ → ℕ → List ℕ
name letter number = letter ∷ decimal number

AllPrintable : List ℕ → Type 0
AllPrintable = All (IsFrom 32 126)

All-decimal : (number : ℕ) → number < 2 ^ 64 → AllPrintable (decimal number)
unfolding AllPrintable
All-decimal = decimal_by_steps (λ number digits. AllPrintable digits)
    (λ number below. All-cons (IsFrom 32 126) (48 + number) [] (omega arith, omega arith) (All-nil (IsFrom 32 126)))
    (λ number digits many all. All-push (IsFrom 32 126) digits (48 + number % 10) all (omega arith, omega arith))

pub IsName-default : (letter number : ℕ) → IsFrom 32 126 letter → number < 10 ^ 11 → IsName (name letter number)
unfolding AllPrintable
IsName-default letter number printable below =
    let short = length-decimal-le 11 number (omega arith) below (omega arith) in
    ((omega arith, omega (arith, short)), All-cons (IsFrom 32 126) letter (decimal number) printable (All-decimal number (omega arith)))

pub IsDistinct-default : (letter count : ℕ) → count < 2 ^ 64 → IsDistinct bytes_eq (map (name letter) (range_with_len 0 count))
IsDistinct-default letter count fits =
    IsDistinct-from_AllPairs bytes_eq-Decides (map (name letter) (range_with_len 0 count)) (λ i j d before within same.
    let many = length-map-range_with_len (name letter) 0 count in
    let at_i = get_or-map-range_with_len (name letter) 0 count i i d (omega (arith, many)) (omega arith) in
    let at_j = get_or-map-range_with_len (name letter) 0 count j j d (omega (arith, many)) (omega arith) in
    let digits : decimal i ≡ decimal j = cc in
    absurd (omega (arith, decimal_injective i j (omega (arith, many)) (omega (arith, many)) digits)))
