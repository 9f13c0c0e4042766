-- The table of commands: which there are, what stands behind each, and what words ask for.
use Rattle.std.specs.Prelude.{◌≡◌, ℕ, Bool, List, [], ◌∷◌, ◌++◌, map, find, codes, Option, Some}
use Rattle.std.specs.List.{flat_map}
use Rattle.std.specs.Str.{bytes_eq}
use Rattle.command_words.specs.Parts.{Form, AllSaid, AllSay}

-- A line of the table: a command, its first word, its form, and what the usage line calls the words behind the first.
pub record Line (V : Type 0) : Type 0 where
  pub verb : V
  pub name : List ℕ
  pub form : Form
  pub words : List (List ℕ)

-- texts with a comma and a space between two
abbrev pub listed : List (List ℕ) → List ℕ
listed [] = []
listed (text ∷ []) = text
listed (text ∷ other ∷ more) = text ++ codes ", " ++ listed (other ∷ more)

module _ {V : Type 0} where
  -- the line of the command of this name, the first of them
  abbrev pub line_named : List (Line V) → List ℕ → Option (Line V)
  line_named lines name = find (λ line. bytes_eq line.name name) lines

  -- what words say behind the name of this line's command
  abbrev pub SaidFor : Line V → Type 0
  SaidFor line = AllSaid line.form.parts line.form.last

  -- The words ask for the command of this line of the table, and say this behind its name.
  pub record Ask (lines : List (Line V)) (words : List (List ℕ)) (line : Line V)
      (said : SaidFor line) : Type 0 where
    pub behind : List (List ℕ)
    pub stands : line_named lines line.name ≡ Some line
    pub form : words ≡ line.name ∷ behind
    pub say : AllSay 0 line.form.parts line.form.last behind said

  -- The words ask for a quiet command, or for one that waits.
  pub record AskOne (lines : List (Line V)) (is_quiet : Bool)
      (words : List (List ℕ)) : Type 0 where
    pub line : Line V
    pub quiet : line.form.is_quiet ≡ is_quiet
    pub said : SaidFor line
    pub ask : Ask lines words line said

  -- They ask for none.
  abbrev pub AskNone : List (Line V) → Bool → List (List ℕ) → Type 0
  AskNone lines is_quiet words = AskOne lines is_quiet words → ⊥

  -- They ask for this one, with these words behind its name.
  pub record Asks (lines : List (Line V)) (is_quiet : Bool) (words : List (List ℕ)) (verb : V)
      (behind : List (List ℕ)) : Type 0 where
    pub one : AskOne lines is_quiet words
    pub verb_is : one.line.verb ≡ verb
    pub behind_is : one.ask.behind ≡ behind

  -- a form as the usage line shows it, and the line
  abbrev pub form_text : Line V → List ℕ
  form_text line = line.name ++ flat_map (λ word. codes " " ++ word) line.words

  abbrev pub usage : List (Line V) → List ℕ
  usage lines = codes "usage: plantctl " ++ listed (map form_text lines) ++ codes "\n"
