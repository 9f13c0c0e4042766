-- What a finding says of a trace: below its position the lines are a history of the plant, and what is wrong there.
use Rattle.std.specs.Prelude.{◌≡◌, ◌≢◌, ℕ, ◌<◌, ◌≤◌, List, ◌∷◌, ◌++◌, All, length}
use Rattle.std.specs.List.Sorted.{IsPermutation}
use Rattle.history_lock.specs.History.{run}
use Rattle.plant_config.specs.Plant.{PlantData}
use Rattle.plant_config.specs.IsPlant.{IsPlant}
use Rattle.plant_core.specs.State.{start}
use Rattle.plant_core.specs.Step.{step}
use Rattle.plant_core.specs.declared.request.Request.{Request}
use Rattle.panel_session.specs.Entry.{PlantEntry}
use Rattle.panel_session.specs.Reply.{reply_text}
use Rattle.trace_audit.specs.declared.verdict.Verdict.TheVariants.{Gap, Repeat, Differs}
use Rattle.trace_lines.specs.Trace.{TracedEntry, LineTells}
use Rattle.trace_audit.specs.Verdict.{IsVerdict}
use Rattle.trace_audit.specs.Laws.{lines_from, IsTraceable}

-- A line tells an entry whose position is so.
abbrev pub TellsAt : PlantData → (ℕ → Type 0) → List ℕ → Type 0
TellsAt plant IsSo line = (entry : TracedEntry) × LineTells plant line entry × IsSo entry.position

-- A history has an entry for each position below this one, and its lines stand in a trace beside these others.
pub record IsToldBelow (plant : PlantData) (lines : List (List ℕ)) (position : ℕ)
    (history : List PlantEntry) (others : List (List ℕ)) : Type 0 where
  pub is_history : IsTraceable plant history
  pub long : length history ≡ position
  pub place : IsPermutation (lines_from plant 0 history ++ others) lines

-- A gap at a position: beside the lines of a history up to there some lines stand, all of them behind it.
pub record IsGap (plant : PlantData) (lines : List (List ℕ)) (position : ℕ) : Type 0 where
  pub history : List PlantEntry
  pub others : List (List ℕ)
  pub below : IsToldBelow plant lines position history others
  pub some : 1 ≤ length others
  pub behind : All (TellsAt plant (λ other. position < other)) others

-- A repeat: beside the lines of a history up to a position two lines stand at it, and no line stands before it.
pub record IsRepeat (plant : PlantData) (lines : List (List ℕ)) (position : ℕ) : Type 0 where
  pub history : List PlantEntry
  pub one : List ℕ
  pub another : List ℕ
  pub others : List (List ℕ)
  pub below : IsToldBelow plant lines position history (one ∷ another ∷ others)
  pub first : TellsAt plant (λ other. other ≡ position) one
  pub second : TellsAt plant (λ other. other ≡ position) another
  pub behind : All (TellsAt plant (λ other. position ≤ other)) others

-- A difference: beside the lines of a history up to a position one line stands at it, which keeps another reply than the plant's
-- behind that history.
pub record IsDifference (plant : PlantData) (lines : List (List ℕ)) (position : ℕ)
    (kept wanted : List ℕ) : Type 0 where
  pub history : List PlantEntry
  pub line : List ℕ
  pub request : Request
  pub others : List (List ℕ)
  pub below : IsToldBelow plant lines position history (line ∷ others)
  pub tells : LineTells plant line
      (record { position = position; request = request; reply = kept })
  pub wanted_is : wanted
      ≡ reply_text plant request (step (run step (start plant) history) request).answers
  pub differ : kept ≢ wanted
  pub behind : All (TellsAt plant (λ other. position < other)) others

-- what is found is so
abbrev pub GapsAreSo : Type 0
GapsAreSo = (plant : PlantData) (lines : List (List ℕ)) (position : ℕ)
    → IsVerdict plant lines (Gap position) → IsGap plant lines position

abbrev pub RepeatsAreSo : Type 0
RepeatsAreSo = (plant : PlantData) (lines : List (List ℕ)) (position : ℕ)
    → IsVerdict plant lines (Repeat position) → IsRepeat plant lines position

abbrev pub DifferencesAreSo : Type 0
DifferencesAreSo =
    (plant : PlantData) (lines : List (List ℕ)) (position : ℕ) (kept wanted : List ℕ)
    → IsVerdict plant lines (Differs position kept wanted)
    → IsDifference plant lines position kept wanted

-- and what is so is found
abbrev pub GapsAreFound : Type 0
GapsAreFound = (plant : PlantData) (lines : List (List ℕ)) (position : ℕ)
    → IsPlant plant → IsGap plant lines position → IsVerdict plant lines (Gap position)

abbrev pub RepeatsAreFound : Type 0
RepeatsAreFound = (plant : PlantData) (lines : List (List ℕ)) (position : ℕ)
    → IsPlant plant → IsRepeat plant lines position → IsVerdict plant lines (Repeat position)

abbrev pub DifferencesAreFound : Type 0
DifferencesAreFound =
    (plant : PlantData) (lines : List (List ℕ)) (position : ℕ) (kept wanted : List ℕ)
    → IsPlant plant → IsDifference plant lines position kept wanted
    → IsVerdict plant lines (Differs position kept wanted)
