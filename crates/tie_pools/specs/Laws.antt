-- What the limits of pools mean for panels, said of all crosspoints and lists of changes.
use Rattle.std.specs.Prelude.{◌≡◌, ◌≤◌, ℕ, true, false, List}
use Rattle.plant_config.specs.declared.records.Change.{Change}
use Rattle.plant_config.specs.Plant.{PlantData}
use Rattle.crosspoint_state.specs.Crosspoints.{Crosspoints}
use Rattle.crosspoint_state.specs.Ties.{size_of, wanted}
use Rattle.crosspoint_state.specs.Applied.{put_all, are_enough}
use Rattle.tie_pools.specs.Reserve.{is_exceeded, are_enough_for}

-- A list brings no more different origins by a pool than its destinations carry already, for which the pool has the ties.
pub record NeedsNoMore (plant : PlantData) (crosspoints : Crosspoints) (changes : List Change)
    (pool : ℕ) : Type 0 where
  pub more : wanted plant (put_all crosspoints changes) pool ≤ wanted plant crosspoints pool
  pub tied : wanted plant crosspoints pool ≤ size_of plant pool

-- A list that needs no more of a pool doesn't exceed it, whoever asks.
abbrev pub NoMoreIsNoExcess : PlantData → Crosspoints → List Change → Type 0
NoMoreIsNoExcess plant crosspoints changes = (pool : ℕ) → NeedsNoMore plant crosspoints changes pool
    → is_exceeded plant crosspoints false changes pool ≡ false

-- The ties are enough for a master's list exactly where they are enough at all.
abbrev pub MastersUseAll : PlantData → Crosspoints → List Change → Type 0
MastersUseAll plant crosspoints changes =
    are_enough_for plant crosspoints true changes ≡ are_enough plant crosspoints changes

-- Where they are enough for a list of a panel that is no master, they are for a master's.
abbrev pub MastersMayAsMuch : PlantData → Crosspoints → List Change → Type 0
MastersMayAsMuch plant crosspoints changes = are_enough_for plant crosspoints false changes ≡ true
    → are_enough_for plant crosspoints true changes ≡ true
