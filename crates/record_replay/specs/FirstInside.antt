-- What the code finds in the first line of a text.
use Rattle.std.specs.Prelude.{◌≡◌, ℕ, ◌+◌, ◌*◌, ◌<◌, ◌≤◌, List, [], ◌∷◌, ◌++◌, length, take, codes, slice_index}
use Rattle.plant_config.specs.Plant.{PlantData}
use Rattle.record_replay.specs.Script.{Read, space, line_feed, lines}
use Rattle.record_replay.specs.LineInside.{IsFormed, IsBad, IsWork, SpellsPanel}
use Rattle.record_replay.specs.PairsInside.{ArePairs, most_pairs}

-- The first line of a text, and what is behind it. The LF between them is in neither.
pub record IsFirst (text line behind : List ℕ) : Type 0 where
  pub lines_are : lines text ≡ line ∷ lines behind
  pub shorter : length behind < length text
  pub within : length line + length behind ≤ length text

-- The first line of a text has a form.
abbrev pub BeginsFormed : PlantData → (text behind : List ℕ) → Type 0
BeginsFormed plant text behind =
    (line : List ℕ) × IsFirst text line behind × IsFormed plant line

-- It has none.
abbrev pub BeginsBad : PlantData → List ℕ → Type 0
BeginsBad plant text =
    (line behind : List ℕ) × IsFirst text line behind × IsBad plant line

-- It is a turn of this panel with this piece.
abbrev pub BeginsWithTurn : PlantData → List ℕ → (panel : ℕ) → (piece behind : List ℕ) → Type 0
BeginsWithTurn plant text panel piece behind =
    (line : List ℕ) × IsFirst text line behind × IsWork plant line (Read panel piece)

-- A text begins as a turn does of a panel of this one digit, up to the hexadecimal.
abbrev pub BeginsAsTurn : (text : List ℕ) → (digit : ℕ) → (hex : List ℕ) → Type 0
BeginsAsTurn text digit hex = text ≡ codes "> " ++ digit ∷ space ∷ hex

-- Where it begins so, what is behind that has no room for the most pairs and an LF.
abbrev pub BeginsShort : List ℕ → Type 0
BeginsShort text =
    (digit : ℕ) (hex : List ℕ) → BeginsAsTurn text digit hex → length hex ≤ 2 * most_pairs

-- The first line of a text is a turn as most are: its panel has one digit, and its hexadecimal one pair at least, the most
-- pairs at most, and no space. It isn't one of the last lines: the most pairs and an LF could stand behind the panel.
pub record BeginsPlainly (plant : PlantData) (text : List ℕ) : Type 0 where
  pub digit : ℕ
  pub hex : List ℕ
  pub panel : ℕ
  pub count : ℕ
  pub begins : BeginsAsTurn text digit hex
  pub long : 2 * most_pairs < length hex
  pub spelled : SpellsPanel plant (digit ∷ []) panel
  pub some : 1 ≤ count
  pub most : count ≤ most_pairs
  pub pairs : ArePairs count hex
  pub ends : slice_index hex (2 * count) ≡ line_feed

-- Behind so many bytes of a text stands an LF, and this behind it.
abbrev pub EndsBehind : ℕ → (text behind : List ℕ) → Type 0
EndsBehind count text behind = text ≡ take count text ++ line_feed ∷ behind
