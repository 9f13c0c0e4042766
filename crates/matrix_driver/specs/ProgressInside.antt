-- How the destinations that are wanted and not settled are kept: as a set beside the tables.
use Rattle.std.specs.Prelude.{◌≡◌, ℕ, ◌≤◌, nat_lt, ◌&&◌, Option}
use Rattle.std.specs.FinSet.{contains}
use Rattle.number_tables.specs.Table.{Table}
use Rattle.number_tables.specs.Numbers.{Numbers, number_limit}
use Rattle.matrix_driver.specs.Progress.{Progress, is_due}

-- what two tables tell
abbrev pub progress_of : Table (Option ℕ) → Table (Option ℕ) → Progress
progress_of wants settled =
    record { wants = wants.entries; settled = settled.entries; room = wants.room }

-- The set has the destinations that are wanted and not settled at their wanted source.
pub record KeepsDue (wants settled : Table (Option ℕ)) (kept : Numbers) : Type 0 where
  pub alike : settled.room ≡ wants.room
  pub few : wants.room ≤ number_limit
  pub due : (dest : ℕ)
      → contains kept dest ≡ (nat_lt dest wants.room && is_due (progress_of wants settled) dest)
