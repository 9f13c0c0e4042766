-- The laws of reading by starts.
use mathlib.Core.List.{IsPrefix}
use Rattle.std.specs.Prelude.{◌≡◌, ℕ, List, ◌++◌}
use Rattle.doubled_bytes.specs.Reading.{Reading, ByStart}

-- a way to read texts that reads each by its start, and what is behind that start in the same way [profile]
abbrev pub ReadsByStart : {Item : Type 0} → ByStart Item → (List ℕ → Reading Item) → Type 0
ReadsByStart by_start reads = (text : List ℕ) → reads text ≡ by_start reads text

-- whatever reads each text by its start reads it as `reading` does [profile]
abbrev pub OneReadsByStart : {Item : Type 0} → ByStart Item → (List ℕ → Reading Item) → Type 0
OneReadsByStart {Item} by_start reading =
    (reads : List ℕ → Reading Item) → ReadsByStart by_start reads
    → (text : List ℕ) → reads text ≡ reading text

-- what a text says once more has come [profile]
pub record ReadsOn {Item : Type 0} (reading : List ℕ → Reading Item)
    (text more : List ℕ) : Type 0 where
  pub items_go_on : (reading (text ++ more)).items
      ≡ (reading text).items ++ (reading ((reading text).rest ++ more)).items
  pub rest_goes_on : (reading (text ++ more)).rest
      ≡ (reading ((reading text).rest ++ more)).rest

-- the items of a text are a front of those of every text that it is a front of [profile]
abbrev pub ItemsStay : {Item : Type 0} → (List ℕ → Reading Item) → Type 0
ItemsStay reading = (text longer : List ℕ) → IsPrefix text longer
    → IsPrefix (reading text).items (reading longer).items
