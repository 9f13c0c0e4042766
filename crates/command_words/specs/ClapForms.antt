-- What clap is told of the forms of the quiet commands, and that it takes their words.
use Rattle.std.specs.Prelude.{◌≡◌, Bool, true, false, List, [], ◌∷◌, filter, fold, codes, option_map, Some, if◌then◌else◌}
use Rattle.clap.specs.Words.{App, Rule, Text, new_app, subcommand_of, takes, with_rule, with_subcommand}
use Rattle.command_words.specs.Parts.{Part}
use Rattle.command_words.specs.Table.{Line, AskOne}
use Rattle.command_words.specs.WordsInside.{several, unnamed, word}

-- the rule of one word, or of several
abbrev pub rule_for : Bool → Text → Rule
rule_for is_one name = if is_one then word name else several (word name)

-- the rules of a form's words: one word for each part, and several behind them
abbrev pub rules_of : List Part → List Text → List Rule
rules_of parts [] = []
rules_of [] (name ∷ names) = rule_for false name ∷ rules_of [] names
rules_of (part ∷ parts) (name ∷ names) = rule_for true name ∷ rules_of parts names

module _ {V : Type 0} where
  abbrev pub app_of_line : Line V → App
  app_of_line line = fold with_rule (new_app line.name) (rules_of line.form.parts line.words)

  abbrev pub with_line : App → Line V → App
  with_line app line = with_subcommand app (app_of_line line).top

  -- the lines of the quiet commands
  abbrev pub quiet_of : List (Line V) → List (Line V)
  quiet_of = filter (λ line. line.form.is_quiet)

  abbrev pub program : List (Line V) → App
  program lines = fold with_line (unnamed (new_app (codes "plantctl"))) (quiet_of lines)

  -- clap takes all words that ask for a quiet command of the table, and enters the subcommand of that name
  pub record ClapTakes (lines : List (Line V)) : Type 0 where
    pub taken : (words : List Text) → AskOne lines true words
        → takes (program lines) words ≡ true
    pub entered : (words : List Text) (one : AskOne lines true words)
        → option_map (λ p. p.0) (subcommand_of (program lines) words) ≡ Some one.line.name
