-- By which displays destinations are watched.
use Rattle.std.specs.Prelude.{◌≡◌, ℕ, ◌<◌, ◌≤◌, List, length, slice_get, slice_index_or, Option, Some, None}
use Rattle.std.specs.Option.{option_and_then}
use Rattle.plant_config.specs.declared.records.Display.{Display}

-- the destination that a display watches, none where there is no display of this number
abbrev pub watch_of : List Display → ℕ → Option ℕ
watch_of displays number =
    option_and_then (λ (display : Display). Some display.watch) (slice_get displays number)

-- The last of the displays below a number that watches a destination, none where none of them does.
pub record IsLastWatcher (displays : List Display) (dest below : ℕ) (found : Option ℕ)
    : Type 0 where
  pub is : (number : ℕ) → found ≡ Some number
      → (number < below) × (watch_of displays number ≡ Some dest)
  pub last : (number other : ℕ) → found ≡ Some number → other < below
      → watch_of displays other ≡ Some dest → other ≤ number
  pub none : (other : ℕ) → found ≡ None → other < below
      → watch_of displays other ≡ Some dest → ⊥

-- a value by its number, none past the end
abbrev pub value_at : List (Option ℕ) → ℕ → Option ℕ
value_at values number = slice_index_or values number None

-- Of the displays below a count each destination has the last that watches it, and each display the last one before it that
-- watches the same destination.
pub record AreWatchersBelow (displays : List Display) (count : ℕ) (lasts befores : List (Option ℕ))
    : Type 0 where
  pub many : length befores ≡ count
  pub last : (dest : ℕ) → IsLastWatcher displays dest count (value_at lasts dest)
  pub before : (number dest : ℕ) → number < count → watch_of displays number ≡ Some dest
      → IsLastWatcher displays dest number (value_at befores number)

-- The same of all displays.
abbrev pub AreWatchersOf : List Display → List (Option ℕ) → List (Option ℕ) → Type 0
AreWatchersOf displays lasts befores = AreWatchersBelow displays (length displays) lasts befores
