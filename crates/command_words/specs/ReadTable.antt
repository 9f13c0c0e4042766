-- The lines of the table as the definitions call them, and what is asked for.
use Rattle.std.specs.Prelude.{ℕ, Bool, List, Option, map, option_and_then}
use Rattle.std.specs.Borrow.{Bor}
use Rattle.command_words.specs.declared.table.Line as code
use Rattle.command_words.specs.declared.table.Asked.{Asked}
use Rattle.command_words.specs.ReadParts.{last_as, part_as}
use Rattle.command_words.specs.Table.{Line, Asks, line_named}
use Rattle.command_words.specs.Words.{texts}

module _ {V : Type 0} where
  abbrev pub line_as : code.Line V → Line V
  line_as line = record {
    verb = line.verb;
    name = line.name.now;
    form = record {
      parts = map part_as line.parts.now;
      last = last_as line.last;
      is_quiet = line.is_quiet;
    };
    words = map (λ (word : Bor (List ℕ)). word.now) line.words.now;
  }

  -- the words ask for this
  abbrev pub AsksSo : List (Line V) → Bool → List (List ℕ) → Asked V → Type 0
  AsksSo lines is_quiet words asked = Asks lines is_quiet words asked.verb (texts asked.behind.now)

  -- the line of this name, if there is a name
  abbrev pub line_of_name : List (Line V) → Option (Bor (List ℕ)) → Option (Line V)
  line_of_name lines name = option_and_then (λ (n : Bor (List ℕ)). line_named lines n.now) name
