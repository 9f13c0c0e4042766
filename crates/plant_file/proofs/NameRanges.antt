-- The names of a level: as many as there are sources or destinations, and the default ones are names too.
use Rattle.std.proofs.Common.{ℕ, zero, suc, ◌+◌, ◌-◌, ◌<◌, ◌≤◌, ◌%◌, ◌^◌, List, [], ◌∷◌, map, length, length-append, All, decimal, arith}
use Rattle.std.specs.List.{AllByRecursion, range_with_len}
use Rattle.std.proofs.lemmas.Fmt.{decimal_by_steps, length-decimal-le}
use Rattle.std.proofs.lemmas.List.Elements.{All-append, All-cons, All-nil, All-push, All-from_recursion}
use Rattle.std.proofs.lemmas.List.FromFn.{length-map-range_with_len}
use Rattle.plant_file.specs.Rows.{first_text_byte, last_text_byte}
use Rattle.plant_file.specs.Reading.{default_name, names_of}
use Rattle.plant_file.specs.Ranges.{IsFrom, IsName, AreNames}

abbrev pub IsPrintable : ℕ → Type 0
IsPrintable = IsFrom first_text_byte last_text_byte

-- the digits of a number are printable
digits_right : (number : ℕ) → number < 2 ^ 64 → All IsPrintable (decimal number)
digits_right = decimal_by_steps (λ n digits. All IsPrintable digits)
    (λ n below. All-cons IsPrintable (48 + n) [] (omega arith, omega arith) (All-nil IsPrintable))
    (λ n digits above all. All-push IsPrintable digits (48 + n % 10) all (omega arith, omega arith))

module _ (letter : ℕ) (right : IsPrintable letter) where
  default_right : (number : ℕ) → number < 100000 → IsName (default_name (letter ∷ []) number)
  default_right number below =
      let short = length-decimal-le 5 number (omega arith) (omega arith) (omega arith) in
      ((omega arith, omega arith), All-cons IsPrintable letter (decimal number) right (digits_right number (omega arith)))

  defaults_right : (first count : ℕ) → first + count ≤ 100000 → AllByRecursion IsName (map (default_name (letter ∷ [])) (range_with_len first count))
  defaults_right first zero within = tt
  defaults_right first (suc count) within = (default_right first (omega arith), defaults_right (first + 1) count (omega arith))

  -- the names of a level's sources, or of its destinations
  pub names_are : (count : ℕ) (names : List (List ℕ)) → count ≤ 65536 → length names ≤ count → All IsName names → AreNames count (names_of (letter ∷ []) count names)
  names_are count names few within all =
      let behind = length-map-range_with_len (default_name (letter ∷ [])) (length names) (count - length names) in (
        omega (arith, length-append names (map (default_name (letter ∷ [])) (range_with_len (length names) (count - length names))), behind),
        All-append IsName names _ all (All-from_recursion IsName _ (defaults_right (length names) (count - length names) (omega arith))),
      )
