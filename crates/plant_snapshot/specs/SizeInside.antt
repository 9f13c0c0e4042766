-- How large an entry is at most.
use Rattle.std.specs.Prelude.{ℕ}

-- the most bytes that an entry of any plant has
abbrev pub most_entry : ℕ
most_entry = 5140824
