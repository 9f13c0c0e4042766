-- Scripts: the lines of a text, and the piece of work that each of them spells.
use Rattle.std.specs.Prelude.{◌≡◌, ◌⊎◌, ℕ, ◌+◌, ◌<◌, ◌≤◌, ◌==◌, Bool, true, false, not, List, [], ◌∷◌, ◌++◌, length, filter, codes, Some, Ok}
use Rattle.hex.specs.Hex.{decode_of}
use Rattle.swp08_messages.specs.declared.message.Message.{Message}
use Rattle.plant_config.specs.Plant.{PlantData}
use Rattle.plant_config.specs.Screens.{has_screen}
use Rattle.record_replay.specs.Take.{connect_named, message_frame}
use Rattle.line_text.specs.Decimal.{SpellsDecimal}
pub use Rattle.line_text.specs.Cut.{space, longest_line, HasNo}
pub use Rattle.line_text.specs.Lines.{line_feed, in_line, lines}

-- A piece of a script's work. A panel's session has one turn with this piece, which is empty where the panel is idle; the
-- panel leaves; or the displays of a screen are polled, with a refresh or without.
pub data Work : Type 0 where
  Read : (panel : ℕ) (piece : List ℕ) → Work
  Leave : (panel : ℕ) → Work
  Show : (screen : ℕ) (refresh : Bool) → Work

-- the number that its line has: that of the panel whose work it is, or that of the screen
abbrev pub number_in : Work → ℕ
number_in (Read panel piece) = panel
number_in (Leave panel) = panel
number_in (Show screen refresh) = screen

-- The panel is one of the plant's, and the screen one that a display of the plant is on.
abbrev pub IsOfPlant : PlantData → Work → Type 0
IsOfPlant plant (Read panel piece) = panel < length plant.panels
IsOfPlant plant (Leave panel) = panel < length plant.panels
IsOfPlant plant (Show screen refresh) = has_screen plant screen ≡ true

-- the byte before each name of a take
abbrev pub tab : ℕ
tab = 9

-- the byte that a line begins with that is skipped
abbrev pub hash : ℕ
hash = 35

-- An empty line is skipped, and one that begins with `#`, whatever stands behind it.
abbrev pub is_skipped : List ℕ → Bool
is_skipped [] = true
is_skipped (byte ∷ more) = byte == hash

-- the lines that aren't skipped
abbrev pub worked : List (List ℕ) → List (List ℕ)
worked lines = filter (λ line. not (is_skipped line)) lines

-- One to five decimal digits spell their number. There may be zeros in front.
pub record NumberSpells (digits : List ℕ) (number : ℕ) : Type 0 where
  pub spelled : SpellsDecimal digits number
  pub few : length digits ≤ 5

-- A text in hexadecimal spells these bytes. Its spaces are dropped, and its digits are of either case.
abbrev pub HexSpells : List ℕ → List ℕ → Type 0
HexSpells hex bytes = decode_of (filter (λ byte. not (byte == space)) hex) ≡ Ok bytes

-- A line is `> P HEX`, for the panel with these digits: its hexadecimal spells these bytes.
abbrev pub Sends : List ℕ → List ℕ → List ℕ → Type 0
Sends line digits piece =
    (hex : List ℕ) × (line ≡ codes "> " ++ digits ++ codes " " ++ hex) × HexSpells hex piece

-- The digits of a matrix and of a level, and the names of a destination and of a source there, ask for this connect.
pub record AsksConnect (plant : PlantData) (matrix level dest source : List ℕ)
    (message : Message) : Type 0 where
  pub matrix_number : ℕ
  pub level_number : ℕ
  pub matrix_spelled : NumberSpells matrix matrix_number
  pub level_spelled : NumberSpells level level_number
  pub connect : connect_named plant matrix_number level_number dest source ≡ Some message

-- `P M L`, TAB, the name of a destination, TAB, the name of a source
abbrev pub take_parts : (digits matrix level dest source : List ℕ) → List ℕ
take_parts digits matrix level dest source =
    digits ++ space ∷ (matrix ++ space ∷ (level ++ tab ∷ (dest ++ tab ∷ source)))

-- A line is a take, for the panel with these digits: the bytes are the frame of the connect that it asks for. The name of
-- the destination ends at the next TAB.
pub record IsTakeLine (plant : PlantData) (line digits piece : List ℕ) : Type 0 where
  pub matrix : List ℕ
  pub level : List ℕ
  pub dest : List ℕ
  pub source : List ℕ
  pub place : line ≡ codes "take " ++ take_parts digits matrix level dest source
  pub dest_ends : HasNo tab dest
  pub message : Message
  pub asks : AsksConnect plant matrix level dest source message
  pub piece_is : piece ≡ message_frame message

-- A line has the form of a piece of work with these digits: `poll P` for an idle turn of the panel, `> P HEX` or a take for
-- one with at least one byte, and `leave P`; and `show S` or, with a refresh, `refresh S` for a display poll of the screen.
abbrev pub HasForm : PlantData → List ℕ → List ℕ → Work → Type 0
HasForm plant line digits (Read panel []) = line ≡ codes "poll " ++ digits
HasForm plant line digits (Read panel (byte ∷ bytes)) =
    Sends line digits (byte ∷ bytes) ⊎ IsTakeLine plant line digits (byte ∷ bytes)
HasForm plant line digits (Leave panel) = line ≡ codes "leave " ++ digits
HasForm plant line digits (Show screen false) = line ≡ codes "show " ++ digits
HasForm plant line digits (Show screen true) = line ≡ codes "refresh " ++ digits

-- A line spells a piece of work of the plant.
pub record LineSpells (plant : PlantData) (line : List ℕ) (work : Work) : Type 0 where
  pub digits : List ℕ
  pub number : NumberSpells digits (number_in work)
  pub of_plant : IsOfPlant plant work
  pub form : HasForm plant line digits work
  pub within : length line ≤ longest_line

-- The lines spell these works, one each, in order.
abbrev pub LinesSpell : PlantData → List (List ℕ) → List Work → Type 0
LinesSpell plant [] [] = Unit {0}
LinesSpell plant (line ∷ others) (work ∷ works) =
    LineSpells plant line work × LinesSpell plant others works
LinesSpell plant [] (work ∷ works) = ⊥
LinesSpell plant (line ∷ others) [] = ⊥

-- Each line of a script that isn't skipped spells a piece of work.
abbrev pub HasWorks : PlantData → List ℕ → Type 0
HasWorks plant script = (works : List Work) × LinesSpell plant (worked (lines script)) works

-- The line of this number, counted from 1 with those that are skipped, is the first of the script that isn't skipped and
-- spells no work.
pub record IsFirstBad (plant : PlantData) (script : List ℕ) (number : ℕ) : Type 0 where
  pub before : List (List ℕ)
  pub works : List Work
  pub spelled : LinesSpell plant (worked before) works
  pub line : List ℕ
  pub after : List (List ℕ)
  pub place : lines script ≡ before ++ line ∷ after
  pub not_skipped : is_skipped line ≡ false
  pub refused : (work : Work) → LineSpells plant line work → ⊥
  pub counted : number ≡ length before + 1
