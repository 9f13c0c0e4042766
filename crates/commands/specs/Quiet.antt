-- How a quiet run ends: at its words, at the opening of what they name, or as the row of its command promises.
use Rattle.std.specs.Prelude.{◌≡◌, ◌⊎◌, ℕ, true, List}
use Rattle.command_words.specs.Table.{AskNone, AskOne, usage}
use Rattle.command_rows.specs.Moment.{Moment, FilesStay}
use Rattle.command_rows.specs.End.{End, ended, out_of_memory, ComesTo}
use Rattle.command_rows.specs.Row.{RowRuns}
use Rattle.commands.specs.declared.rows.Verb.{Verb}
use Rattle.commands.specs.Rows.{AskFor, SaidOf, row_of, promise_of, table}

-- Words lead to this end before any file is opened: they ask for no quiet command, or they ask for one and memory runs out.
abbrev pub WordsLead : List (List ℕ) → End → Type 0
WordsLead words end = ((end ≡ ended 2 (usage table)) × AskNone table true words)
    ⊎ ((end ≡ out_of_memory) × AskOne table true words)

-- The run ended at its words, and left the files alone.
pub record StopsAtWords (words : List (List ℕ)) (before now : Moment) (status : ℕ) : Type 0 where
  pub end : End
  pub lead : WordsLead words end
  pub files : FilesStay before now
  pub comes : ComesTo end status before.output now.output

-- A run of the row of this command ends so, if words say this behind its name.
abbrev pub Runs : (verb : Verb) → SaidOf verb → Moment → Moment → ℕ → Type 0
Runs verb said before now status =
    RowRuns (row_of verb).form.parts (row_of verb).form.last (promise_of verb) said before now
    status

-- The words ask for this quiet command, and say this behind its name; and opening that stopped the run, or the row of the command
-- ended as it promises.
pub record RunsRow (words : List (List ℕ)) (before now : Moment) (status : ℕ) : Type 0 where
  pub verb : Verb
  pub quiet : (row_of verb).form.is_quiet ≡ true
  pub said : SaidOf verb
  pub ask : AskFor words verb said
  pub runs : Runs verb said before now status

-- A quiet run with these words ended so, with this status, between these two moments.
abbrev pub QuietEnds : List (List ℕ) → Moment → Moment → ℕ → Type 0
QuietEnds words before now status =
    StopsAtWords words before now status ⊎ RunsRow words before now status
