-- What the exit statuses tell of a quiet run. Each is a law over the ends of runs; what a command adds of its own are the laws of
-- its crate.
use Rattle.std.specs.Prelude.{◌≡◌, ◌≢◌, ◌⊎◌, ℕ, ◌<◌, true, List, [], ◌∷◌, ◌++◌, Contains, Result, Ok}
use Rattle.ctl_io.specs.Faults.{one_more}
use Rattle.ctl_io.specs.Held.{Stays}
use Rattle.ctl_io.specs.Sink.{appended}
use Rattle.plant_config.specs.Plant.{PlantData}
use Rattle.command_words.specs.Parts.{Part, Last}
use Rattle.command_words.specs.Table.{AskNone, usage}
use Rattle.command_rows.specs.Moment.{Snapshot, Moment, FilesStay}
use Rattle.command_rows.specs.End.{out_of_memory, ComesTo}
use Rattle.command_rows.specs.OpenerLaws.{form_files}
use Rattle.command_rows.specs.Row.{Promise}
use Rattle.command_rows.specs.RowLaws.{CouldNotWrite, OneIsSilent, RowStatusesAreKnown, WasWorked, made_files, own_files}
use Rattle.command_rows.specs.Sound.{IsOneOf}
use Rattle.command_rows.specs.Shown.{AllShow}
use Rattle.command_replay.specs.Laws.{ShowsHistory}
use Rattle.commands.specs.declared.rows.Verb.{Verb}
use Rattle.commands.specs.declared.rows.Verb.TheVariants.{Replay, Keep}
use Rattle.commands.specs.Rows.{AskFor, SaidOf, row_of, promise_of, statuses_of, table}
use Rattle.commands.specs.Quiet.{Runs, QuietEnds}

-- This holds of the row of each command.
abbrev pub OfEachRow : ((parts : List Part) (last : Last) → Promise parts last → Type 0) → Type 0
OfEachRow Law =
    (verb : Verb) → Law (row_of verb).form.parts (row_of verb).form.last (promise_of verb)

-- A run of a row that ends with 1 has written nothing else: `keep` alone writes as it goes.
abbrev pub RowsAreSilent : Type 0
RowsAreSilent = (verb : Verb) → verb ≢ Keep
    → OneIsSilent (row_of verb).form.parts (row_of verb).form.last (promise_of verb)

-- The own statuses of the row of each command are those of the table.
abbrev pub RowsHaveTheirStatuses : Type 0
RowsHaveTheirStatuses = (verb : Verb) → RowStatusesAreKnown (row_of verb).form.parts
    (row_of verb).form.last (promise_of verb) (statuses_of verb)

-- Memory ran out at the words, before any file was opened.
pub record RanOutAtWords (before now : Moment) (status : ℕ) : Type 0 where
  pub files : FilesStay before now
  pub comes : ComesTo out_of_memory status before.output now.output

-- Words that ask for a quiet command run its row, unless memory runs out before any file is opened. So what is said of the runs of
-- its row is said of the runs with such words.
abbrev pub AskedRuns : Type 0
AskedRuns = (words : List (List ℕ)) (verb : Verb) (said : SaidOf verb) (before now : Moment)
    (status : ℕ) → AskFor words verb said → (row_of verb).form.is_quiet ≡ true
    → QuietEnds words before now status
    → Runs verb said before now status ⊎ RanOutAtWords before now status

-- Every quiet run ends with one of eight statuses, 0 to 7.
abbrev pub StatusesAreKnown : Type 0
StatusesAreKnown = (words : List (List ℕ)) (before now : Moment) (status : ℕ)
    → QuietEnds words before now status → status < 8

-- The words ask for this command, of whose own statuses this is one, and its row was worked.
pub record WorkedRow (words : List (List ℕ)) (before now : Moment) (status : ℕ) : Type 0 where
  pub verb : Verb
  pub said : SaidOf verb
  pub ask : AskFor words verb said
  pub own : IsOneOf (statuses_of verb) status
  pub worked : WasWorked (row_of verb).form.parts (row_of verb).form.last (promise_of verb)
      said before now status

-- A run that ends with 0 or with 6 has worked a row that has such a status of its own: 6 is of audits and standbys.
abbrev pub WorkIsDone : Type 0
WorkIsDone = (words : List (List ℕ)) (before now : Moment) (status : ℕ)
    → (status ≡ 0) ⊎ (status ≡ 6) → QuietEnds words before now status
    → WorkedRow words before now status

-- The words of a run that ends with 2 ask for no quiet command.
abbrev pub TwoHasNoForm : Type 0
TwoHasNoForm = (words : List (List ℕ)) (before now : Moment) → QuietEnds words before now 2
    → AskNone table true words

-- A run that ends with 2 has written the usage line and nothing else.
abbrev pub TwoTellsUsage : Type 0
TwoTellsUsage = (words : List (List ℕ)) (before now : Moment) → QuietEnds words before now 2
    → now.output.written ≡ appended before.output.written (usage table)

-- Words that ask for no quiet command lead to 2, or to 7 where the line could not be written.
abbrev pub NoFormEndsWithTwo : Type 0
NoFormEndsWithTwo = (words : List (List ℕ)) (before now : Moment) (status : ℕ)
    → AskNone table true words → QuietEnds words before now status
    → (status ≡ 2) ⊎ CouldNotWrite before now status

-- In a run that ends with 7 one write failed.
abbrev pub QuietSevenHasCause : Type 0
QuietSevenHasCause = (words : List (List ℕ)) (before now : Moment) → QuietEnds words before now 7
    → now.output.faults ≡ one_more before.output.faults

-- In a run that ends with another status no write failed.
abbrev pub QuietWritesAll : Type 0
QuietWritesAll = (words : List (List ℕ)) (before now : Moment) (status : ℕ)
    → QuietEnds words before now status → status ≢ 7 → now.output.faults ≡ before.output.faults

-- A run that ends with 0, and was to replay a script that the files show with its plant, has shown a history of the plant.
abbrev pub ReplaysShowHistories : Type 0
ReplaysShowHistories =
    (words : List (List ℕ)) (said : SaidOf Replay) (plant : PlantData) (script : List ℕ)
    (before now : Moment) → AskFor words Replay said
    → AllShow (row_of Replay).form.parts (row_of Replay).form.last said before.files.held
    (Ok (plant, (script, tt)))
    → QuietEnds words before now 0 → ShowsHistory plant script before now

-- The words name this file: it is one that they ask for, one that is to be made, or a store.
abbrev pub NamesFile : List (List ℕ) → List ℕ → Type 0
NamesFile words name = (verb : Verb) × (said : SaidOf verb) × AskFor words verb said
    × Contains (form_files (row_of verb).form.parts (row_of verb).form.last said
    ++ own_files (row_of verb).form.parts (row_of verb).form.last said) name

-- The words ask for no file that is to be made.
abbrev pub MakeNoFile : List (List ℕ) → Type 0
MakeNoFile words = (verb : Verb) (said : SaidOf verb) → AskFor words verb said
    → made_files (row_of verb).form.parts (row_of verb).form.last said ≡ []

-- What a run leaves of the files: each source, each sink and each disk was given back, no sink was made but of a file that the
-- words ask to make, and what is held of names stays that they don't name. The files' count of faults stays, unless the status is
-- 3 or 7, and rises by one at most.
pub record LeavesFiles (words : List (List ℕ)) (before now : Snapshot) (status : ℕ)
    : Type 0 where
  pub sources : now.custody.sources.out ≡ before.custody.sources.out
  pub sinks : now.custody.sinks.out ≡ before.custody.sinks.out
  pub disks : now.custody.disks.out ≡ before.custody.disks.out
  pub unmade : MakeNoFile words → now.custody.sinks ≡ before.custody.sinks
  pub others : (name : List ℕ) → (NamesFile words name → ⊥)
      → Stays (before.held name) (now.held name)
  pub stay : status ≢ 3 → status ≢ 7 → now.faults ≡ before.faults
  pub rise : (now.faults ≡ before.faults) ⊎ (now.faults ≡ one_more before.faults)

abbrev pub QuietLeaves : Type 0
QuietLeaves = (words : List (List ℕ)) (before now : Moment) (status : ℕ)
    → QuietEnds words before now status → LeavesFiles words before.files now.files status
