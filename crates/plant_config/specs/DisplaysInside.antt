-- How the displays of a plant are noted.
use Rattle.std.specs.Prelude.{◌≡◌, ℕ, ◌≤◌, List, All}
use Rattle.plant_config.specs.declared.records.Display.{Display}
use Rattle.plant_config.specs.Limits.{last_screen}
use Rattle.plant_config.specs.Screens.{screens_among}

-- A display's screen is within its limit.
abbrev pub IsOnScreen : Display → Type 0
IsOnScreen display = display.screen ≤ last_screen

-- The displays are within their limit, and their screens are noted.
pub record AreNoted (displays : List Display) (screens : List ℕ) : Type 0 where
  pub within : All IsOnScreen displays
  pub noted : screens ≡ screens_among displays
