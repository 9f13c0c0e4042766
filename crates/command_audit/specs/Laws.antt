-- What the status of an audit tells.
use Rattle.std.specs.Prelude.{◌≡◌, ◌⊎◌, ℕ, List, Result, Ok}
use Rattle.ctl_io.specs.Sink.{appended}
use Rattle.plant_config.specs.Plant.{PlantData}
use Rattle.trace_audit.specs.declared.verdict.Verdict.{Verdict}
use Rattle.trace_audit.specs.declared.verdict.Verdict.TheVariants.{Confirmed, BadLine, Gap, Repeat, Differs}
use Rattle.trace_audit.specs.Verdict.{IsVerdict}
use Rattle.command_words.specs.Parts.{AllSaid}
use Rattle.command_rows.specs.Moment.{Snapshot, Moment}
use Rattle.command_rows.specs.Opener.{AllLead}
use Rattle.command_rows.specs.Row.{RowRuns}
use Rattle.command_rows.specs.Shown.{AllShow}
use Rattle.command_rows.specs.RowLaws.{WasKept, WasStopped}
use Rattle.command_audit.specs.Audit.{parts, last, AuditRow}
use Rattle.command_audit.specs.Verdict.{verdict_line, verdict_status}

-- The traces were audited: these are the lines of all of them, they have this verdict, and exactly the verdict's line was appended.
pub record WereAudited (said : AllSaid parts last) (before now : Moment) (verdict : Verdict)
    : Type 0 where
  pub plant : PlantData
  pub its : List (List ℕ)
  pub opened : Snapshot
  pub lead : AllLead parts last said before.files opened (Ok (plant, its))
  pub is_verdict : IsVerdict plant its verdict
  pub appends : now.output.written ≡ appended before.output.written (verdict_line verdict)

-- A run that ends with 0 has confirmed its traces.
abbrev pub ZeroHasConfirmed : Type 0
ZeroHasConfirmed = (said : AllSaid parts last) (before now : Moment)
    → RowRuns parts last AuditRow said before now 0
    → (count : ℕ) × WereAudited said before now (Confirmed count)

-- A run that ends with 5 was stopped at traces that are too long together, or has refused a line.
abbrev pub FiveHasBadLine : Type 0
FiveHasBadLine = (said : AllSaid parts last) (before now : Moment)
    → RowRuns parts last AuditRow said before now 5
    → WasStopped parts last said before now 5
    ⊎ ((number : ℕ) × WereAudited said before now (BadLine number))

-- An audit found something: a gap, a repeat or a difference.
abbrev pub IsFinding : Verdict → Type 0
IsFinding (Confirmed count) = ⊥
IsFinding (BadLine number) = ⊥
IsFinding (Gap position) = Unit {0}
IsFinding (Repeat position) = Unit {0}
IsFinding (Differs position kept wanted) = Unit {0}

-- A run that ends with 6 has found something.
abbrev pub SixHasFound : Type 0
SixHasFound = (said : AllSaid parts last) (before now : Moment)
    → RowRuns parts last AuditRow said before now 6
    → (verdict : Verdict) × IsFinding verdict × WereAudited said before now verdict

-- Traces that the files show with their plant lead to the status of the verdict on their lines, unless the run is kept from its end:
-- to 0 where they are confirmed, to 5 where a line is refused, and to 6 where a gap, a repeat or a difference is found.
abbrev pub VerdictsEndRuns : Type 0
VerdictsEndRuns =
    (said : AllSaid parts last) (plant : PlantData) (its : List (List ℕ)) (verdict : Verdict)
    (before now : Moment) (status : ℕ)
    → AllShow parts last said before.files.held (Ok (plant, its)) → IsVerdict plant its verdict
    → RowRuns parts last AuditRow said before now status
    → (status ≡ verdict_status verdict) ⊎ WasKept before now status
