-- How the notices of a panel are written, many at once: from the bits of two words.
use Rattle.std.specs.Prelude.{ℕ, ◌+◌, ◌*◌, ◌/◌, ◌%◌, ◌^◌, List, [], ◌∷◌}
use Rattle.std.specs.Int.{bit_at}

-- the lowest four bits of a number, each as a byte of its own
abbrev pub spread : ℕ → ℕ
spread bits =
    bits % 2 + 2 ^ 8 * (bits / 2 % 2) + 2 ^ 16 * (bits / 4 % 2) + 2 ^ 24 * (bits / 8 % 2)

-- the notices of a destination by its bit in a word for the sources and in one for the protects
abbrev pub notices_by : ℕ → ℕ → ℕ → ℕ
notices_by source protect bit = bit_at source bit + 2 * bit_at protect bit

-- those of the lowest four bits
abbrev pub four_notices : ℕ → ℕ → List ℕ
four_notices source protect =
    notices_by source protect 0 ∷ notices_by source protect 1 ∷ notices_by source protect 2
    ∷ notices_by source protect 3 ∷ []
