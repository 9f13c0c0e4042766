-- How a name lies in an array of the longest name's length.
use Rattle.std.specs.Prelude.{◌≡◌, ℕ, ◌-◌, ◌≤◌, List, ◌++◌, length, take, replicate}
use Rattle.plant_file.specs.Rows.{longest_name}

-- the bytes of a name, with zeros behind them
abbrev pub padded : List ℕ → List ℕ
padded bytes = bytes ++ replicate (longest_name - length bytes) 0

-- An array has a name of so many bytes in front, and zeros behind it.
pub record IsPadded (count : ℕ) (bytes : List ℕ) : Type 0 where
  pub fits : count ≤ longest_name
  pub counted : length (take count bytes) ≡ count
  pub padded : bytes ≡ padded (take count bytes)
