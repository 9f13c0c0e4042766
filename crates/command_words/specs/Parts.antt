-- The parts of a form: what stands behind the name of a command, and what words say of it.
use Rattle.std.specs.Prelude.{◌≡◌, ℕ, Bool, List, [], ◌∷◌, Option, None, Some}
use Rattle.command_words.specs.Words.{IsFileName, NameTraces, SaysNumber}

-- ---- what a form is made of

-- A kind of files that are read whole: what the line says of one that is too long, before these two words, and the most bytes.
pub record FileKind : Type 0 where
  pub word : List ℕ
  pub longest : ℕ

-- The least of a number: this one, or the number that stands before it.
pub data Low : Type 0 where
  AtLeast : (least : ℕ) → Low
  AsBefore : Low

-- A part of a form, of which one word speaks: a plant's word; the name of a file that is read whole; that of a file that is
-- made; that of a store, of the plant before it; that of a file that the command itself reads whole, behind what it opens before;
-- a number between a low one and this.
pub data Part : Type 0 where
  Plant : Part
  Whole : (kind : FileKind) → Part
  Made : Part
  Store : Part
  Later : (kind : FileKind) → Part
  Number : (low : Low) (most : ℕ) → Part

-- What stands behind the parts: nothing; the names of 1 to 200 files that are read whole, together no longer than their kind;
-- or one name, which may be left out.
pub data Last : Type 0 where
  NoMore : Last
  Wholes : (kind : FileKind) → Last
  Prefix : Last

-- A form: its parts and what stands behind them. A command that waits for others, for panels or for threads, isn't a quiet one.
pub record Form : Type 0 where
  pub parts : List Part
  pub last : Last
  pub is_quiet : Bool

-- ---- what words say

-- what a word says of a part: a name or a number
abbrev pub Said : Part → Type 0
Said Plant = List ℕ
Said (Whole kind) = List ℕ
Said Made = List ℕ
Said Store = List ℕ
Said (Later kind) = List ℕ
Said (Number low most) = ℕ

-- what words say behind the parts
abbrev pub SaidLast : Last → Type 0
SaidLast NoMore = Unit {0}
SaidLast (Wholes kind) = List (List ℕ)
SaidLast Prefix = Option (List ℕ)

-- what words say of parts, and behind them
abbrev pub AllSaid : List Part → Last → Type 0
AllSaid [] last = SaidLast last
AllSaid (part ∷ parts) last = Said part × AllSaid parts last

-- the least that a number may be, if this one stands before it
abbrev pub least_of : Low → ℕ → ℕ
least_of (AtLeast least) before = least
least_of AsBefore before = before

-- A word is a name, and this is it.
abbrev pub IsNameOf : List ℕ → List ℕ → Type 0
IsNameOf word name = (name ≡ word) × IsFileName word

-- A word says this of a part, if this number stands before it.
abbrev pub Says : (before : ℕ) (part : Part) → List ℕ → Said part → Type 0
Says before Plant word said = IsNameOf word said
Says before (Whole kind) word said = IsNameOf word said
Says before Made word said = IsNameOf word said
Says before Store word said = IsNameOf word said
Says before (Later kind) word said = IsNameOf word said
Says before (Number low most) word said = SaysNumber (least_of low before) most word said

-- the number that stands before the next part, behind this one
abbrev pub number_behind : (before : ℕ) (part : Part) → Said part → ℕ
number_behind before Plant said = before
number_behind before (Whole kind) said = before
number_behind before Made said = before
number_behind before Store said = before
number_behind before (Later kind) said = before
number_behind before (Number low most) said = said

-- Words say this behind the parts.
abbrev pub SayLast : (last : Last) → List (List ℕ) → SaidLast last → Type 0
SayLast NoMore words said = words ≡ []
SayLast (Wholes kind) words said = (said ≡ words) × NameTraces words
SayLast Prefix [] said = said ≡ None
SayLast Prefix (word ∷ []) said = (said ≡ Some word) × IsFileName word
SayLast Prefix (word ∷ other ∷ more) said = ⊥

-- Words say this of the parts, one word each in their order, and of what stands behind them. Before the first part stands this
-- number.
abbrev pub AllSay : (before : ℕ) (parts : List Part) (last : Last) → List (List ℕ)
    → AllSaid parts last → Type 0
AllSay before [] last words said = SayLast last words said
AllSay before (part ∷ parts) last [] said = ⊥
AllSay before (part ∷ parts) last (word ∷ words) said =
    Says before part word said.0
    × AllSay (number_behind before part said.0) parts last words said.1
