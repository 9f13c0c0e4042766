-- The draws of a drill, of which its messages are made. Sums and products are those of 64 bits.
use Rattle.std.specs.Prelude.{ℕ, zero, suc, ◌+◌, ◌*◌, ◌/◌, ◌%◌, ◌^◌}

-- what 64 bits keep of a number
abbrev pub wrapped : ℕ → ℕ
wrapped number = number % 2 ^ 64

-- the seed at which the draws of a panel begin, in the drill of this number
abbrev pub first_seed : ℕ → ℕ → ℕ
first_seed number panel = wrapped (number + wrapped (panel * 11400714819323198485))

-- the seed behind a seed
abbrev pub next_seed : ℕ → ℕ
next_seed seed = wrapped (wrapped (seed * 6364136223846793005) + 1442695040888963407)

-- the seed of a panel after so many draws
abbrev pub seed_after : ℕ → ℕ → ℕ → ℕ
seed_after number panel zero = first_seed number panel
seed_after number panel (suc draws) = next_seed (seed_after number panel draws)

-- what a draw gives: the upper bits of the seed that it makes
abbrev pub drawn : ℕ → ℕ
drawn seed = seed / 2 ^ 33
