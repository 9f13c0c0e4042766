-- What is true of every trace. A confirmed trace and a legal history are the same thing.
use Rattle.std.specs.Prelude.{◌≡◌, ◌≢◌, ℕ, ◌+◌, ◌≤◌, List, [], ◌∷◌, All, Contains, length, take, slice_get, Some}
use Rattle.std.specs.List.Sorted.{IsPermutation}
use Rattle.history_lock.specs.History.{IsLegal}
use Rattle.plant_config.specs.Plant.{PlantData}
use Rattle.plant_config.specs.IsPlant.{IsPlant}
use Rattle.plant_core.specs.State.{start, Fits}
use Rattle.plant_core.specs.Step.{step}
use Rattle.panel_session.specs.Entry.{PlantEntry}
use Rattle.trace_lines.specs.TraceLine.{trace_limit, entry_text}
use Rattle.panel_session.specs.Reply.{reply_text}
use Rattle.trace_audit.specs.declared.verdict.Verdict.{Verdict}
use Rattle.trace_audit.specs.declared.verdict.Verdict.TheVariants.{Confirmed, BadLine}
use Rattle.trace_lines.specs.Trace.{TracedEntry, HasTraceNumbers, LineTells}
use Rattle.trace_audit.specs.Verdict.{IsVerdict}

-- the lines of a history whose first entry has this position, without the bytes that end them
abbrev pub lines_from : PlantData → ℕ → List PlantEntry → List (List ℕ)
lines_from plant position [] = []
lines_from plant position (entry ∷ later) =
    entry_text position entry.request (reply_text plant entry.request entry.answers)
    ∷ lines_from plant (position + 1) later

-- A history of the plant from its start that can be traced: it is legal, its positions, from 0 on, are at most 2^62, and so
-- are the numbers of its items and turns.
pub record IsTraceable (plant : PlantData) (history : List PlantEntry) : Type 0 where
  pub legal : IsLegal step Fits (start plant) history
  pub few : length history ≤ trace_limit + 1
  pub numbers : All (λ entry. HasTraceNumbers entry.request) history

-- The lines are those of the history, each once, in any order.
abbrev pub AreLinesOf : PlantData → List PlantEntry → List (List ℕ) → Type 0
AreLinesOf plant history lines = IsPermutation (lines_from plant 0 history) lines

-- A line tells an entry of a history of the plant, or none.
abbrev pub TellsSome : PlantData → List ℕ → Type 0
TellsSome plant line = (entry : TracedEntry) × LineTells plant line entry

abbrev pub TellsNone : PlantData → List ℕ → Type 0
TellsNone plant line = (entry : TracedEntry) → LineTells plant line entry → ⊥

-- The line of this number, counted from 1, tells no entry, and each line before it tells one.
pub record IsFirstBadLine (plant : PlantData) (lines : List (List ℕ)) (number : ℕ) : Type 0 where
  pub before : ℕ
  pub counted : number ≡ before + 1
  pub line : List ℕ
  pub place : slice_get lines before ≡ Some line
  pub refused : TellsNone plant line
  pub told : All (TellsSome plant) (take before lines)

-- A verdict isn't that of a bad line.
abbrev pub HasNoBadLine : Verdict → Type 0
HasNoBadLine verdict = (number : ℕ) → verdict ≢ BadLine number

-- the lines of a history are confirmed
abbrev pub HistoriesAreConfirmed : Type 0
HistoriesAreConfirmed =
    (plant : PlantData) (history : List PlantEntry) (lines : List (List ℕ))
    → IsPlant plant → IsTraceable plant history → AreLinesOf plant history lines
    → IsVerdict plant lines (Confirmed (length history))

-- what is confirmed is a history
abbrev pub ConfirmedAreHistories : Type 0
ConfirmedAreHistories =
    (plant : PlantData) (lines : List (List ℕ)) (count : ℕ)
    → IsVerdict plant lines (Confirmed count)
    → (history : List PlantEntry) × IsTraceable plant history × AreLinesOf plant history lines
    × (length history ≡ count)

-- a trace has one verdict
abbrev pub TracesHaveOneVerdict : Type 0
TracesHaveOneVerdict =
    (plant : PlantData) (lines : List (List ℕ)) (one other : Verdict)
    → IsPlant plant → IsVerdict plant lines one → IsVerdict plant lines other → one ≡ other

-- no line is refused but by its own text: the verdict names the first line that tells no entry
abbrev pub BadLinesTellNone : Type 0
BadLinesTellNone =
    (plant : PlantData) (lines : List (List ℕ)) (number : ℕ)
    → IsVerdict plant lines (BadLine number) → IsFirstBadLine plant lines number

-- and where a line is the first that tells none, the verdict names it
abbrev pub FirstBadLinesAreNamed : Type 0
FirstBadLinesAreNamed =
    (plant : PlantData) (lines : List (List ℕ)) (number : ℕ)
    → IsFirstBadLine plant lines number → IsVerdict plant lines (BadLine number)

-- no line that tells no entry is passed over
abbrev pub NoBadLineIsPassed : Type 0
NoBadLineIsPassed =
    (plant : PlantData) (lines : List (List ℕ)) (line : List ℕ) (verdict : Verdict)
    → Contains lines line → TellsNone plant line → IsVerdict plant lines verdict
    → (number : ℕ) × (verdict ≡ BadLine number)

-- where no line is bad, the verdict is the same whatever the order of the lines
abbrev pub OrderIsNoMatter : Type 0
OrderIsNoMatter =
    (plant : PlantData) (lines others : List (List ℕ)) (verdict : Verdict)
    → IsPermutation lines others → HasNoBadLine verdict
    → IsVerdict plant lines verdict → IsVerdict plant others verdict

-- and where one is, some line is found bad in every order
abbrev pub BadLinesAreFound : Type 0
BadLinesAreFound =
    (plant : PlantData) (lines others : List (List ℕ)) (number : ℕ) (verdict : Verdict)
    → IsPermutation lines others → IsVerdict plant lines (BadLine number)
    → IsVerdict plant others verdict → (other : ℕ) × (verdict ≡ BadLine other)
