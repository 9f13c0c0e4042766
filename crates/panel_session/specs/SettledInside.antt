-- A session whose turns are all over.
use Rattle.std.specs.Prelude.{◌≡◌, ℕ}
use Rattle.plant_config.specs.Plant.{PlantData}
use Rattle.panel_session.specs.declared.session.phase.Phase.TheVariants.{Read}
use Rattle.panel_session.specs.SoFar.{Progress, unstarted}
use Rattle.panel_session.specs.StandsInside.{Kept, Keeps}
use Rattle.panel_session.specs.Text.{Output}

-- what a session keeps between its turns: it reads next, has not polled since, and all its output was sent
abbrev pub between_turns : ℕ → ℕ → ℕ → Output → Kept
between_turns panel items turns output =
    record {
      panel = panel;
      phase = Read;
      items = items;
      turns = turns;
      polls = 0;
      output = output;
    }

-- What a session of a panel of this plant has done where all its turns are over: something is kept of it.
pub record Settled (plant : PlantData) (panel : ℕ) (past : Progress) : Type 0 where
  pub count : ℕ
  pub turns : ℕ
  pub output : Output
  pub begins : past.now ≡ unstarted
  pub keeps : Keeps plant (between_turns panel count turns output) past
