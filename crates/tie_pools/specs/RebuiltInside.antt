-- How ties are counted anew: nothing is counted at first, and then one destination after another.
use Rattle.std.specs.Prelude.{◌≡◌, ℕ, zero, suc, nat_lt, true, if◌then◌else◌, List, None}
use Rattle.std.specs.FinMap.{empty, get}
use Rattle.std.specs.FinSet.{contains}
use Rattle.number_tables.specs.Table.{Entries, put}
use Rattle.number_tables.specs.Numbers.{Numbers}
use Rattle.plant_config.specs.Plant.{PlantData}
use Rattle.crosspoint_state.specs.Crosspoints.{Crosspoints}
use Rattle.crosspoint_state.specs.Ties.{size_of}
use Rattle.tie_pools.specs.Counts.{free_of}

-- The numbers below a count have no value now, and each other one has what it had.
abbrev pub AreCleared : {V : Type 0} → Entries V → Entries V → ℕ → Type 0
AreCleared old new count =
    (number : ℕ) → get new number ≡ (if nat_lt number count then None else get old number)

-- Each pool below a count has all of its ties free.
abbrev pub AreFreeBelow : PlantData → List Numbers → ℕ → Type 0
AreFreeBelow plant free count = (pool tie : ℕ) → nat_lt pool count ≡ true
    → contains (free_of free pool) tie ≡ nat_lt tie (size_of plant pool)

-- what the destinations below a number carry
abbrev pub carried_below : Crosspoints → ℕ → Crosspoints
carried_below points zero = empty
carried_below points (suc dest) = put (carried_below points dest) dest (get points dest)
