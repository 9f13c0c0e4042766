-- What the devices of a set weigh together.
use Rattle.std.specs.Prelude.{ℕ, zero, suc, ◌+◌, cond, Bool, length}
use Rattle.plant_config.specs.Plant.{PlantData}
use Rattle.plant_config.specs.Limits.{device_limit}
use Rattle.mixer_effects.specs.Buses.{buses_at}

-- the weights of the numbers below one that pass a test, together
unfoldable pub weights : (ℕ → ℕ) → (ℕ → Bool) → ℕ → ℕ
weights weight is_counted zero = 0
weights weight is_counted (suc n) =
    cond (is_counted n) (weight n) 0 + weights weight is_counted n

-- what the devices of a set weigh together
unfoldable pub weigh : (ℕ → ℕ) → (ℕ → Bool) → ℕ
weigh weight is_counted = weights weight is_counted device_limit

-- a device weighs one, and one for each of its buses
abbrev pub device_weight : PlantData → ℕ → ℕ
device_weight plant device = suc (length (buses_at plant device))
