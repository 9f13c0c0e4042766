-- What the code calls a prefix.
use Rattle.std.specs.Prelude.{List, ℕ, Option}
use Rattle.std.specs.Option.{option_map}
use Rattle.std.specs.Borrow.{Bor}

-- the text of a word, where there is one
abbrev pub word_of : Option (Bor (List ℕ)) → Option (List ℕ)
word_of word = option_map (λ (its : Bor (List ℕ)). its.now) word
