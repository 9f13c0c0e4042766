-- Pairs of hexadecimal digits that are read where they stand.
use Rattle.std.specs.Prelude.{◌≡◌, ℕ, ◌+◌, ◌*◌, List, [], ◌∷◌, take, slice_index, Ok, option_map, unwrap_or}
use Rattle.hex.specs.Hex.{decode_of, hex_digit_value}
use Rattle.record_replay.specs.LineInside.{IsNoHex}

-- the most pairs that are read so
abbrev pub most_pairs : ℕ
most_pairs = 256

-- The first so many pairs of a text are the digits of the bytes in front of the room.
abbrev pub AreRead : ℕ → List ℕ → List ℕ → Type 0
AreRead count text room = decode_of (take (2 * count) text) ≡ Ok (take count room)

-- The first so many pairs of a text are digits.
abbrev pub ArePairs : ℕ → List ℕ → Type 0
ArePairs count text = (bytes : List ℕ) × (decode_of (take (2 * count) text) ≡ Ok bytes)

-- The pair behind so many of them isn't.
abbrev pub IsNoPair : ℕ → List ℕ → Type 0
IsNoPair count text =
    IsNoHex (slice_index text (2 * count) ∷ slice_index text (2 * count + 1) ∷ [])

-- what stands in a table for a byte that is no digit
abbrev pub no_digit : ℕ
no_digit = 3221225472

-- what a byte makes as the first digit of a pair, and as the second one
abbrev pub high_of : ℕ → ℕ
high_of byte = unwrap_or (option_map (λ value. 16 * value) (hex_digit_value byte)) no_digit

abbrev pub low_of : ℕ → ℕ
low_of byte = unwrap_or (hex_digit_value byte) no_digit
