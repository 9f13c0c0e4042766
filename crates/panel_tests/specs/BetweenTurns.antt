-- A session that is worked turn by turn.
use Rattle.std.specs.Prelude.{◌≡◌, ℕ, ◌*◌, ◌^◌, ◌≤◌, length}
use Rattle.plant_config.specs.IsPlant.{IsPlant}
use Rattle.plant_config.specs.Plant.{PlantData}
use Rattle.panel_session.specs.Session.{StandsFor}
use Rattle.panel_session.specs.SoFar.{Progress, unstarted}
use Rattle.panel_session.specs.Turns.{bytes_read}
use Rattle.panel_session.specs.declared.session.Session.{Session}

-- The session is between turns, of which it had at most so many, each with a piece of at most 2^20 bytes.
pub record IsBetween (session : Session) (turns : ℕ) : Type 0 where
  pub plant : PlantData
  pub panel : ℕ
  pub past : Progress
  pub is_plant : IsPlant plant
  pub stands : StandsFor plant panel session past
  pub begins : past.now ≡ unstarted
  pub few : length past.turns ≤ turns
  pub short : length (bytes_read past.turns) ≤ 2 ^ 20 * turns
