-- What an audit finds in a trace: whether it is a history of the plant, from its start and without a gap.
use Rattle.std.specs.Prelude.{◌≡◌, ◌⊎◌, ℕ, ◌+◌, ◌<◌, ◌==◌, max, bytes_eq, if◌then◌else◌, List, [], ◌∷◌, ◌++◌, filter, length, Option, None, Some}
use Rattle.std.specs.List.{fold, flat_map, range_with_len}
use Rattle.plant_config.specs.Plant.{PlantData}
use Rattle.plant_core.specs.State.{State, start}
use Rattle.plant_core.specs.Step.{step}
use Rattle.plant_core.specs.declared.request.Request.{Request}
use Rattle.panel_session.specs.Reply.{reply_text}
use Rattle.trace_audit.specs.declared.verdict.Verdict.{Verdict}
use Rattle.trace_audit.specs.declared.verdict.Verdict.TheVariants.{Confirmed, BadLine, Gap, Repeat, Differs}
use Rattle.trace_lines.specs.Trace.{TracedEntry, LineTells}

-- The lines tell these entries, one each, in order.
abbrev pub LinesTell : PlantData → List (List ℕ) → List TracedEntry → Type 0
LinesTell plant [] [] = Unit {0}
LinesTell plant (line ∷ lines) (entry ∷ entries) =
    LineTells plant line entry × LinesTell plant lines entries
LinesTell plant [] (entry ∷ entries) = ⊥
LinesTell plant (line ∷ lines) [] = ⊥

-- the entries at a position
abbrev pub entries_at : ℕ → List TracedEntry → List TracedEntry
entries_at position entries = filter (λ entry. entry.position == position) entries

-- how many positions there are from 0 to the greatest one of entries
abbrev pub position_count : List TracedEntry → ℕ
position_count entries = fold (λ count entry. max count (entry.position + 1)) 0 entries

-- the entries at the positions below this one, in the order of their positions
abbrev pub entries_below : ℕ → List TracedEntry → List TracedEntry
entries_below position entries =
    flat_map (λ earlier. entries_at earlier entries) (range_with_len 0 position)

-- The state of the plant at a position: what the requests at the positions below it leave, begun at the plant's start.
abbrev pub state_at : PlantData → List TracedEntry → ℕ → State
state_at plant entries position =
    fold (λ state entry. (step state entry.request).state) (start plant)
    (entries_below position entries)

-- the text of what a request is answered in a state
abbrev pub wanted_reply : PlantData → State → Request → List ℕ
wanted_reply plant state request = reply_text plant request (step state request).answers

-- what is wrong with a reply that was kept: nothing where it is the one that is wanted
abbrev pub compared : ℕ → List ℕ → List ℕ → Option Verdict
compared position kept wanted =
    if bytes_eq kept wanted then None else Some (Differs position kept wanted)

-- what is wrong with the entries at one position, in the state of the plant there: there is none, there are several, or the one
-- that there is was answered otherwise
abbrev pub fault_of : PlantData → State → ℕ → List TracedEntry → Option Verdict
fault_of plant state position [] = Some (Gap position)
fault_of plant state position (entry ∷ []) =
    compared position entry.reply (wanted_reply plant state entry.request)
fault_of plant state position (entry ∷ other ∷ others) = Some (Repeat position)

-- the finding at a position, none where nothing is wrong there
abbrev pub finding : PlantData → List TracedEntry → ℕ → Option Verdict
finding plant entries position =
    fault_of plant (state_at plant entries position) position (entries_at position entries)

-- At no position below this one is anything found.
abbrev pub AreRightBelow : PlantData → List TracedEntry → ℕ → Type 0
AreRightBelow plant entries position =
    (earlier : ℕ) → earlier < position → finding plant entries earlier ≡ None

-- The verdict is the first finding, by positions from 0 to the greatest one.
pub record IsFirstFinding (plant : PlantData) (entries : List TracedEntry) (verdict : Verdict)
    : Type 0 where
  pub position : ℕ
  pub within : position < position_count entries
  pub before : AreRightBelow plant entries position
  pub found : finding plant entries position ≡ Some verdict

-- Nothing is found up to the greatest position, and the verdict confirms as many entries as there are.
pub record AreConfirmed (plant : PlantData) (entries : List TracedEntry) (verdict : Verdict)
    : Type 0 where
  pub right : AreRightBelow plant entries (position_count entries)
  pub counted : verdict ≡ Confirmed (length entries)

-- The first line, counted from 1, that tells no entry of a history of the plant.
pub record IsBadLine (plant : PlantData) (lines : List (List ℕ)) (verdict : Verdict)
    : Type 0 where
  pub before : List (List ℕ)
  pub entries : List TracedEntry
  pub told : LinesTell plant before entries
  pub line : List ℕ
  pub after : List (List ℕ)
  pub place : lines ≡ before ++ line ∷ after
  pub refused : (entry : TracedEntry) → LineTells plant line entry → ⊥
  pub counted : verdict ≡ BadLine (length before + 1)

-- Each line tells an entry, and this is the verdict on the entries, whatever the order of the lines.
pub record IsOfEntries (plant : PlantData) (lines : List (List ℕ)) (verdict : Verdict)
    : Type 0 where
  pub entries : List TracedEntry
  pub told : LinesTell plant lines entries
  pub verdict_is : IsFirstFinding plant entries verdict ⊎ AreConfirmed plant entries verdict

-- The verdict on the lines of a trace.
abbrev pub IsVerdict : PlantData → List (List ℕ) → Verdict → Type 0
IsVerdict plant lines verdict = IsBadLine plant lines verdict ⊎ IsOfEntries plant lines verdict
