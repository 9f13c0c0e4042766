-- How many answers a session has room for.
use Rattle.std.specs.Prelude.{ℕ}

-- the most answers of a step of a plant: no level has more destinations
abbrev pub most_answers : ℕ
most_answers = 1024
