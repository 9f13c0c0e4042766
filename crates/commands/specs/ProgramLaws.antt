-- What the exit statuses tell of a run of the whole program. Each is a law over its ends.
use Rattle.std.specs.Prelude.{◌≡◌, ◌≢◌, ◌⊎◌, ℕ, true, false, List}
use Rattle.ctl_io.specs.Faults.{one_more}
use Rattle.ctl_io.specs.Sink.{appended}
use Rattle.panel_server.specs.PlantServed.{NetData}
use Rattle.command_words.specs.Table.{AskNone, usage}
use Rattle.command_rows.specs.Moment.{Moment}
use Rattle.command_rows.specs.RowLaws.{CouldNotWrite}
use Rattle.command_serve.specs.Laws.{Serves}
use Rattle.command_serve.specs.Whole.{WasServedWhole}
use Rattle.commands.specs.declared.rows.Verb.{Verb}
use Rattle.commands.specs.declared.rows.Verb.TheVariants.{Serve}
use Rattle.commands.specs.Rows.{AskFor, SaidOf, row_of, table}
use Rattle.commands.specs.Quiet.{QuietEnds}
use Rattle.commands.specs.Program.{Waits, ProgramEnds}

-- Words that ask for a waiting command run its row. So what is said of the runs of its row is said of the runs with such words.
abbrev pub AskedWaits : {P : Type 0} → (P → List (List ℕ) → Type 0) → (P → ℕ) → Type 0
AskedWaits {P} WasSent faults =
    (words : List (List ℕ)) (verb : Verb) (said : SaidOf verb) (before now : Moment)
    (net net_then : NetData P) (status : ℕ)
    → AskFor words verb said → (row_of verb).form.is_quiet ≡ false
    → ProgramEnds WasSent faults words before now net net_then status
    → Waits WasSent faults verb said before now net net_then status

-- A run whose words ask for no waiting command ends as a quiet run does: what is said of the statuses of those holds.
abbrev pub OthersRunQuietly : {P : Type 0} → (P → List (List ℕ) → Type 0) → (P → ℕ) → Type 0
OthersRunQuietly {P} WasSent faults =
    (words : List (List ℕ)) (before now : Moment) (net net_then : NetData P) (status : ℕ)
    → AskNone table false words
    → ProgramEnds WasSent faults words before now net net_then status
    → QuietEnds words before now status

-- A run whose words ask for no service leaves the net as it was.
abbrev pub OthersLeaveNet : {P : Type 0} → (P → List (List ℕ) → Type 0) → (P → ℕ) → Type 0
OthersLeaveNet {P} WasSent faults =
    (words : List (List ℕ)) (before now : Moment) (net net_then : NetData P) (status : ℕ)
    → ((said : SaidOf Serve) → AskFor words Serve said → ⊥)
    → ProgramEnds WasSent faults words before now net net_then status → net_then ≡ net

-- A run that ends with 0, and was to serve a plant, has served it whole.
abbrev pub ZeroServesWhole : {P : Type 0} → (P → List (List ℕ) → Type 0) → (P → ℕ) → Type 0
ZeroServesWhole {P} WasSent faults =
    (words : List (List ℕ)) (said : SaidOf Serve) (before now : Moment)
    (net net_then : NetData P) → AskFor words Serve said
    → ProgramEnds WasSent faults words before now net net_then 0
    → WasServedWhole WasSent faults said before now net net_then

-- A run that ends with 8 or 9 was to serve a plant.
abbrev pub EightIsOfServices : {P : Type 0} → (P → List (List ℕ) → Type 0) → (P → ℕ) → Type 0
EightIsOfServices {P} WasSent faults =
    (words : List (List ℕ)) (before now : Moment) (net net_then : NetData P) (status : ℕ)
    → (status ≡ 8) ⊎ (status ≡ 9)
    → ProgramEnds WasSent faults words before now net net_then status
    → (said : SaidOf Serve) × AskFor words Serve said
    × Serves WasSent faults said before now net net_then status

-- The words have no form of the whole program: they ask for no quiet command, and for none that waits.
abbrev pub HasNoForm : List (List ℕ) → Type 0
HasNoForm words = AskNone table true words × AskNone table false words

-- The words of a run that ends with 2 have no form, and it has written the usage line and nothing else.
abbrev pub ProgramTwoTellsUsage : {P : Type 0} → (P → List (List ℕ) → Type 0) → (P → ℕ) → Type 0
ProgramTwoTellsUsage {P} WasSent faults =
    (words : List (List ℕ)) (before now : Moment) (net net_then : NetData P)
    → ProgramEnds WasSent faults words before now net net_then 2
    → HasNoForm words × (now.output.written ≡ appended before.output.written (usage table))

-- Words that have no form lead to 2, or to 7 where the line could not be written.
abbrev pub NoFormEndsProgramWithTwo : {P : Type 0} → (P → List (List ℕ) → Type 0) → (P → ℕ)
    → Type 0
NoFormEndsProgramWithTwo {P} WasSent faults =
    (words : List (List ℕ)) (before now : Moment) (net net_then : NetData P) (status : ℕ)
    → HasNoForm words → ProgramEnds WasSent faults words before now net net_then status
    → (status ≡ 2) ⊎ CouldNotWrite before now status

-- In a run that ends with 7 one write failed, and in a run that ends with another status none did.
abbrev pub ProgramSevenHasCause : {P : Type 0} → (P → List (List ℕ) → Type 0) → (P → ℕ) → Type 0
ProgramSevenHasCause {P} WasSent faults =
    (words : List (List ℕ)) (before now : Moment) (net net_then : NetData P)
    → ProgramEnds WasSent faults words before now net net_then 7
    → now.output.faults ≡ one_more before.output.faults

abbrev pub ProgramWritesAll : {P : Type 0} → (P → List (List ℕ) → Type 0) → (P → ℕ) → Type 0
ProgramWritesAll {P} WasSent faults =
    (words : List (List ℕ)) (before now : Moment) (net net_then : NetData P) (status : ℕ)
    → ProgramEnds WasSent faults words before now net net_then status → status ≢ 7
    → now.output.faults ≡ before.output.faults
