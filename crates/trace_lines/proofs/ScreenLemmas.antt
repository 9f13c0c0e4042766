-- The numbers of screens and panels in a line.
use Rattle.std.proofs.Common.{◌≡◌, ℕ, ◌<◌, ◌≤◌, true, length, arith}
use Rattle.plant_config.specs.Plant.{PlantData}
use Rattle.plant_config.specs.IsPlant.{IsPlant}
use Rattle.plant_config.specs.Screens.{has_screen}
use Rattle.trace_lines.specs.TraceLine.{trace_limit}
use Rattle.plant_config.proofs.ScreenLemmas.{screen_within_plant}

-- A screen that a display of a plant is on is one that a trace may name.
pub screen_small : (plant : PlantData) (screen : ℕ) → IsPlant plant → has_screen plant screen ≡ true → screen ≤ trace_limit
screen_small plant screen is has = let within = screen_within_plant plant screen is has in omega (arith, within)

-- So is a panel of a plant.
pub panel_small : (plant : PlantData) (panel : ℕ) → IsPlant plant → panel < length plant.panels → panel ≤ trace_limit
panel_small plant panel is below = omega (arith, is.panels)
