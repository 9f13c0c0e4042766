-- How the entries of a trace are kept, and how the plant stands while they are looked at.
use Rattle.std.specs.Prelude.{◌≡◌, ℕ, ◌+◌, ◌≤◌, Bool, true, false, List, [], ◌∷◌, ◌++◌, length, Option, None, Some, vec_capacity}
use Rattle.line_text.specs.Lines.{lines}
use Rattle.plant_config.specs.Plant.{PlantData}
use Rattle.plant_core.specs.Answer.{room_of}
use Rattle.plant_core.specs.State.{State, FitsPlant, IsValid}
use Rattle.plant_core.specs.Step.{step}
use Rattle.trace_lines.specs.TraceLine.{longest_trace_line}
use Rattle.trace_lines.specs.Trace.{TracedEntry, LineTells}
use Rattle.trace_audit.specs.Verdict.{LinesTell}
use Rattle.trace_audit.specs.Verdict.{entries_at, position_count, state_at, fault_of, AreRightBelow, IsFirstFinding}
use Rattle.trace_audit.specs.declared.kept.Row.{Row}
use Rattle.trace_audit.specs.declared.kept.Kept.{Kept}
use Rattle.trace_audit.specs.RowsInside.{row_at}
use Rattle.trace_audit.specs.declared.verdict.Verdict.{Verdict}
use Rattle.trace_audit.specs.declared.walk.Walker.{Walker}

-- whether there are entries
abbrev pub has_some : List TracedEntry → Bool
has_some [] = false
has_some (entry ∷ others) = true

-- A row has the last of the entries at its position, and says whether there were others before.
pub record HasRow (plant : PlantData) (row : Row) (entries : List TracedEntry) : Type 0 where
  pub before : List TracedEntry
  pub last : TracedEntry
  pub place : entries ≡ before ++ last ∷ []
  pub request : row.request ≡ last.request
  pub reply : row.reply.now ≡ last.reply
  pub repeated : row.repeated ≡ has_some before
  pub fits : FitsPlant plant row.request

-- No row is kept where there is no entry.
abbrev pub IsRow : PlantData → Option Row → List TracedEntry → Type 0
IsRow plant None entries = entries ≡ []
IsRow plant (Some row) entries = HasRow plant row entries

-- These entries are kept.
pub record AreKept (plant : PlantData) (kept : Kept) (entries : List TracedEntry) : Type 0 where
  pub rows : (position : ℕ) → IsRow plant (row_at kept.rows position)
      (entries_at position entries)
  pub lines : kept.lines ≡ length entries
  pub positions : kept.positions ≡ position_count entries

-- These lines tell the entries that are kept.
pub record IsReadTo (plant : PlantData) (read : List (List ℕ)) (kept : Kept) : Type 0 where
  pub entries : List TracedEntry
  pub told : LinesTell plant read entries
  pub kept_are : AreKept plant kept entries

-- The entries are kept of the lines of a text, so many, that stand before this rest of it.
pub record IsReadSoFar (plant : PlantData) (text rest : List ℕ) (kept : Kept) (count : ℕ)
    : Type 0 where
  pub before : List (List ℕ)
  pub read : IsReadTo plant before kept
  pub place : lines text ≡ before ++ lines rest
  pub counted : count ≡ length before
  pub fewer : count + length rest ≤ length text

-- The entries are kept of the lines up to one that tells none, of this number.
pub record IsReadToBad (plant : PlantData) (all : List (List ℕ)) (kept : Kept) (number : ℕ)
    : Type 0 where
  pub before : List (List ℕ)
  pub read : IsReadTo plant before kept
  pub line : List ℕ
  pub after : List (List ℕ)
  pub place : all ≡ before ++ line ∷ after
  pub refused : (entry : TracedEntry) → LineTells plant line entry → ⊥
  pub counted : number ≡ length before + 1

-- The entries are kept of all lines, or else up to one that tells none.
abbrev pub IsReadOf : PlantData → List (List ℕ) → Kept → Option ℕ → Type 0
IsReadOf plant all kept None = IsReadTo plant all kept
IsReadOf plant all kept (Some number) = IsReadToBad plant all kept number

-- The plant stands in a valid state, and there is room for all that a step of it answers.
pub record IsReady (plant : PlantData) (walker : Walker) : Type 0 where
  pub plant_is : walker.state.plant ≡ plant
  pub valid : IsValid walker.state
  pub places : room_of plant ≤ walker.answers.places
  pub room : longest_trace_line ≤ vec_capacity walker.wanted

-- What was found at a position whose entries are kept as this row: where nothing was, the plant has gone on by the row.
abbrev pub IsLooked : PlantData → ℕ → Row → State → State → Option Verdict → Type 0
IsLooked plant position row old new found =
    (entries : List TracedEntry) → HasRow plant row entries
    → (fault_of plant old position entries ≡ found)
    × (found ≡ None → new ≡ (step old row.request).state)

-- The positions below this one were looked at: nothing was found, whichever entries are kept so, and the plant stands where
-- their requests leave it.
pub record HasWalked (plant : PlantData) (kept : Kept) (position : ℕ) (walker : Walker)
    : Type 0 where
  pub ready : IsReady plant walker
  pub right : (entries : List TracedEntry) → AreKept plant kept entries
      → AreRightBelow plant entries position
  pub state : (entries : List TracedEntry) → AreKept plant kept entries
      → walker.state ≡ state_at plant entries position

-- the first finding by positions, if there is one
abbrev pub IsFound : PlantData → List TracedEntry → Option Verdict → Type 0
IsFound plant entries None = AreRightBelow plant entries (position_count entries)
IsFound plant entries (Some verdict) = IsFirstFinding plant entries verdict
