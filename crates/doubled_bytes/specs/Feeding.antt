-- What feeding a piece of a stream does.
use Rattle.std.specs.Prelude.{◌≡◌, ℕ, ◌<◌, ◌≤◌, List, ◌++◌, length, take, Option, None}
use Rattle.std.specs.Option.{option_to_list}

-- Of a piece that comes behind `text`, so many bytes were used and this item was answered: it is the first that ends
-- within the piece, and ends with the last byte used. Where none ends within the piece, all of it was used. [profile]
pub record Feeds {Item : Type 0} (items : List ℕ → List Item)
    (text piece : List ℕ) (used : ℕ) (item : Option Item) : Type 0 where
  pub within : used ≤ length piece
  pub adds : items (text ++ take used piece) ≡ items text ++ option_to_list item
  pub is_first : (n : ℕ) → n < used → items (text ++ take n piece) ≡ items text
  pub uses_all : item ≡ None → used ≡ length piece
