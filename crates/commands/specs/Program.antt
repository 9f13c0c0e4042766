-- How a run of the whole program ends: as the row of the waiting command that the words ask for, or else as a quiet run does.
use Rattle.std.specs.Prelude.{◌≡◌, ◌⊎◌, ℕ, false, List}
use Rattle.panel_server.specs.PlantServed.{NetData}
use Rattle.command_words.specs.Table.{AskNone}
use Rattle.command_rows.specs.Moment.{Moment, Output}
use Rattle.command_rows.specs.End.{out_of_memory, ComesTo}
use Rattle.command_serve.specs.Laws.{Serves}
use Rattle.commands.specs.declared.rows.Verb.{Verb}
use Rattle.commands.specs.declared.rows.Verb.TheVariants.{Serve, Drill}
use Rattle.commands.specs.Rows.{AskFor, SaidOf, table}
use Rattle.commands.specs.Quiet.{Runs, QuietEnds}

-- A run of the row of this waiting command ends so, if words say this behind its name. Where it asks nothing of the net, that is as
-- it was.
abbrev pub Waits : {P : Type 0} → (P → List (List ℕ) → Type 0) → (P → ℕ) → (verb : Verb)
    → SaidOf verb → Moment → Moment → NetData P → NetData P → ℕ → Type 0
Waits WasSent faults Serve said before now net net_then status =
    Serves WasSent faults said before now net net_then status
Waits WasSent faults Drill said before now net net_then status =
    (net_then ≡ net) × Runs Drill said before now status
Waits WasSent faults quiet said before now net net_then status = ⊥

-- The words ask for this waiting command, and say this behind its name, and its row ended so.
pub record WaitingEnds {P : Type 0} (WasSent : P → List (List ℕ) → Type 0) (faults : P → ℕ)
    (words : List (List ℕ)) (before now : Moment) (net net_then : NetData P) (status : ℕ)
    : Type 0 where
  pub verb : Verb
  pub said : SaidOf verb
  pub ask : AskFor words verb said
  pub waits : Waits WasSent faults verb said before now net net_then status

-- The words ask for no waiting command, the run ended as a quiet one, and the net is as it was.
pub record EndsQuietly {P : Type 0} (words : List (List ℕ)) (before now : Moment)
    (net net_then : NetData P) (status : ℕ) : Type 0 where
  pub none : AskNone table false words
  pub ends : QuietEnds words before now status
  pub untouched : net_then ≡ net

-- A run with these words ended with this status, between these two moments, and between these of the net.
abbrev pub ProgramEnds : {P : Type 0} → (P → List (List ℕ) → Type 0) → (P → ℕ)
    → List (List ℕ) → Moment → Moment → NetData P → NetData P → ℕ → Type 0
ProgramEnds WasSent faults words before now net net_then status =
    WaitingEnds WasSent faults words before now net net_then status
    ⊎ EndsQuietly words before now net net_then status

-- A run ended before its words were known, for want of memory: the line that says so was appended, or a write failed behind a
-- shorter front of it.
abbrev pub EndsUnworded : ℕ → Output → Output → Type 0
EndsUnworded status before now = ComesTo out_of_memory status before now
