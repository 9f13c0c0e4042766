-- Words that are names, and words that say numbers.
use Rattle.std.specs.Prelude.{◌≢◌, ℕ, ◌≤◌, List, [], ◌∷◌, length, map, All}
use Rattle.std.specs.Global.{Global}
use Rattle.std.specs.declared.string.String.{String}
use Rattle.std.specs.String.{string_bytes}
use Rattle.line_text.specs.Decimal.{SpellsDecimal}

-- the words as texts
abbrev pub texts : List (String Global) → List (List ℕ)
texts words = map string_bytes words

-- A word that names something isn't empty and doesn't begin with a dash.
abbrev pub IsFileName : List ℕ → Type 0
IsFileName [] = ⊥
IsFileName (byte ∷ more) = byte ≢ 45

-- the most traces of an audit
abbrev pub most_traces : ℕ
most_traces = 200

-- Words name traces: there are 1 to 200 of them, and each is a name.
pub record NameTraces (words : List (List ℕ)) : Type 0 where
  pub some : 1 ≤ length words
  pub few : length words ≤ most_traces
  pub names : All IsFileName words

-- the most digits of a word that says a number
abbrev pub digit_limit : ℕ
digit_limit = 10

-- A word says this number, which is between these two: decimal digits spell it, at most 10, with zeros in front or without.
pub record SaysNumber (least most : ℕ) (word : List ℕ) (number : ℕ) : Type 0 where
  pub spells : SpellsDecimal word number
  pub short : length word ≤ digit_limit
  pub not_less : least ≤ number
  pub not_more : number ≤ most
