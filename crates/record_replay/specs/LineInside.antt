-- What the code finds in a line.
use Rattle.std.specs.Prelude.{◌≡◌, ◌⊎◌, ℕ, ◌<◌, ◌≤◌, Bool, true, false, List, ◌∷◌, ◌++◌, length, Ok}
use Rattle.hex.specs.Hex.{decode_of}
use Rattle.plant_config.specs.Plant.{PlantData}
use Rattle.plant_config.specs.Screens.{has_screen}
use Rattle.record_replay.specs.declared.line.Line as code
use Rattle.record_replay.specs.declared.line.Line.TheVariants as found
use Rattle.swp08_messages.specs.declared.message.Message.{Message}
use Rattle.record_replay.specs.Take.{message_frame}
use Rattle.record_replay.specs.Script.{Work, Read, Leave, Show, space, tab, is_skipped, HasNo, NumberSpells, HexSpells, take_parts, AsksConnect, LineSpells}

-- A text spells no number.
abbrev pub SpellsNoNumber : List ℕ → Type 0
SpellsNoNumber text = (number : ℕ) → NumberSpells text number → ⊥

-- A text spells the number of no panel of the plant, or that of this panel.
abbrev pub SpellsNoPanel : PlantData → List ℕ → Type 0
SpellsNoPanel plant text =
    (number : ℕ) → NumberSpells text number → number < length plant.panels → ⊥

abbrev pub SpellsPanel : PlantData → List ℕ → ℕ → Type 0
SpellsPanel plant text panel = NumberSpells text panel × (panel < length plant.panels)

-- So of a screen that a display of the plant is on.
abbrev pub SpellsNoScreen : PlantData → List ℕ → Type 0
SpellsNoScreen plant text =
    (number : ℕ) → NumberSpells text number → has_screen plant number ≡ true → ⊥

abbrev pub SpellsScreen : PlantData → List ℕ → ℕ → Type 0
SpellsScreen plant text screen = NumberSpells text screen × (has_screen plant screen ≡ true)

-- Digits without spaces are the hexadecimal of no bytes.
abbrev pub IsNoHex : List ℕ → Type 0
IsNoHex digits = (bytes : List ℕ) → decode_of digits ≡ Ok bytes → ⊥

-- What a line has behind `> `: the digits of a panel of the plant, up to the first space, and then at least one byte in
-- hexadecimal.
pub record IsTurn (plant : PlantData) (behind : List ℕ) (panel : ℕ) (piece : List ℕ) : Type 0 where
  pub digits : List ℕ
  pub hex : List ℕ
  pub place : behind ≡ digits ++ space ∷ hex
  pub number : NumberSpells digits panel
  pub has_panel : panel < length plant.panels
  pub spelled : HexSpells hex piece
  pub some : 1 ≤ length piece

-- What a line has behind `> ` is a turn of no panel.
abbrev pub IsNoTurn : PlantData → List ℕ → Type 0
IsNoTurn plant behind = (panel : ℕ) (piece : List ℕ) → IsTurn plant behind panel piece → ⊥

-- What a line has behind `take `, in its parts.
pub record AreParts (behind panel matrix level dest source : List ℕ) : Type 0 where
  pub place : behind ≡ take_parts panel matrix level dest source
  pub panel_ends : HasNo space panel
  pub matrix_ends : HasNo space matrix
  pub level_ends : HasNo tab level
  pub dest_ends : HasNo tab dest

-- It hasn't these parts.
abbrev pub HasNoParts : List ℕ → Type 0
HasNoParts behind =
    (panel matrix level dest source : List ℕ) → AreParts behind panel matrix level dest source → ⊥

-- The parts ask for no connect.
abbrev pub AsksNothing : PlantData → (matrix level dest source : List ℕ) → Type 0
AsksNothing plant matrix level dest source =
    (message : Message) → AsksConnect plant matrix level dest source message → ⊥

-- What a line has behind `take `: the digits of a panel of the plant, and what asks for a connect, whose frame are the bytes.
pub record IsTake (plant : PlantData) (behind : List ℕ) (panel : ℕ) (piece : List ℕ) : Type 0 where
  pub digits : List ℕ
  pub matrix : List ℕ
  pub level : List ℕ
  pub dest : List ℕ
  pub source : List ℕ
  pub parts : AreParts behind digits matrix level dest source
  pub number : NumberSpells digits panel
  pub has_panel : panel < length plant.panels
  pub message : Message
  pub asks : AsksConnect plant matrix level dest source message
  pub piece_is : piece ≡ message_frame message

-- What a line has behind `take ` is a take of no panel.
abbrev pub IsNoTake : PlantData → List ℕ → Type 0
IsNoTake plant behind = (panel : ℕ) (piece : List ℕ) → IsTake plant behind panel piece → ⊥

-- A line that isn't skipped spells no work.
abbrev pub IsBad : PlantData → List ℕ → Type 0
IsBad plant line = (is_skipped line ≡ false) × ((work : Work) → LineSpells plant line work → ⊥)

-- A line that isn't skipped spells this work.
abbrev pub IsWork : PlantData → List ℕ → Work → Type 0
IsWork plant line work = (is_skipped line ≡ false) × LineSpells plant line work

-- This was found in a line, with the bytes of its turn.
abbrev pub IsFound : PlantData → List ℕ → code.Line → List ℕ → Type 0
IsFound plant line found.Skipped bytes = is_skipped line ≡ true
IsFound plant line (found.Read panel) bytes = IsWork plant line (Read panel bytes)
IsFound plant line (found.Leave panel) bytes = IsWork plant line (Leave panel)
IsFound plant line (found.Show screen refresh) bytes = IsWork plant line (Show screen refresh)

-- What was found in a line is a display poll that it spells; or it spells none.
abbrev pub IsShow : PlantData → List ℕ → code.Line → Type 0
IsShow plant line found.Skipped = ⊥
IsShow plant line (found.Read panel) = ⊥
IsShow plant line (found.Leave panel) = ⊥
IsShow plant line (found.Show screen refresh) = LineSpells plant line (Show screen refresh)

abbrev pub IsNoShow : PlantData → List ℕ → Type 0
IsNoShow plant line =
    (screen : ℕ) (refresh : Bool) → LineSpells plant line (Show screen refresh) → ⊥

-- A line is skipped, or spells a work.
abbrev pub IsFormed : PlantData → List ℕ → Type 0
IsFormed plant line = (is_skipped line ≡ true) ⊎ ((work : Work) × IsWork plant line work)
