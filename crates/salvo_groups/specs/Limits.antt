-- The limits of salvo groups, by this project's profile.
use Rattle.std.specs.Prelude.{ℕ}

-- how many salvo groups there are: their numbers are 0 to 127
abbrev pub salvo_limit : ℕ
salvo_limit = 128

-- the most entries of a group
abbrev pub group_limit : ℕ
group_limit = 256
