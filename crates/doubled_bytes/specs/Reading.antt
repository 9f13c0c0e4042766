-- What a text says, read by its starts.
use Rattle.std.specs.Prelude.{ℕ, zero, suc, List, [], ◌∷◌, length}

-- what a text says: its items, and the rest that is no whole item yet [profile]
pub record Reading (Item : Type 0) : Type 0 where
  pub items : List Item
  pub rest : List ℕ

abbrev pub only_rest : {Item : Type 0} → List ℕ → Reading Item
only_rest text = record { items = []; rest = text }

abbrev pub with_item : {Item : Type 0} → Item → Reading Item → Reading Item
with_item item reading = record reading { items = item ∷ reading.items }

-- a reading by cases on a text's start, over the reading of what is behind it [profile]
abbrev pub ByStart : Type 0 → Type 0
ByStart Item = (List ℕ → Reading Item) → List ℕ → Reading Item

-- Reading goes on at a shorter text each time, so one step more than the text has bytes is enough. [profile]
abbrev pub reading_within : {Item : Type 0} → ByStart Item → ℕ → List ℕ → Reading Item
reading_within by_start zero text = only_rest text
reading_within by_start (suc steps) text = by_start (reading_within by_start steps) text

abbrev pub reading_by : {Item : Type 0} → ByStart Item → List ℕ → Reading Item
reading_by by_start text = reading_within by_start (suc (length text)) text
