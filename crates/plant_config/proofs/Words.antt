-- Whether a text is within its lengths and printable, as a test.
use Rattle.std.proofs.Common.{◌≡◌, ℕ, Bool, true, ◌&&◌, nat_le, List, length}
use Rattle.std.specs.List.{list_all}
use Rattle.std.proofs.lemmas.Bool.{and_parts, leb-true}
use Rattle.std.proofs.lemmas.List.Sums.{AllPass-from_list_all}
use Rattle.std.proofs.lemmas.List.Elements.{All-weaker}
use Rattle.plant_file.specs.Ranges.{IsFrom, IsWords}

abbrev is_from : ℕ → ℕ → ℕ → Bool
is_from low high number = nat_le low number && nat_le number high

abbrev pub is_words : ℕ → ℕ → List ℕ → Bool
is_words low high text = is_from low high (length text) && list_all (is_from 32 126) text

IsFrom-is_from : (low high number : ℕ) → is_from low high number ≡ true → IsFrom low high number
IsFrom-is_from low high number is =
    let parts = and_parts (nat_le low number) (nat_le number high) is in
    (leb-true low number parts.0, leb-true number high parts.1)

pub IsWords-is_words : (low high : ℕ) (text : List ℕ) → is_words low high text ≡ true → IsWords low high text
IsWords-is_words low high text is =
    let parts = and_parts (is_from low high (length text)) (list_all (is_from 32 126) text) is in (
      IsFrom-is_from low high (length text) parts.0,
      All-weaker (λ byte. is_from 32 126 byte ≡ true) (IsFrom 32 126) (IsFrom-is_from 32 126) text (AllPass-from_list_all (is_from 32 126) text parts.1),
    )
