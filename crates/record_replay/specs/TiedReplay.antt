-- What a replay is: its text, the history that it shows, and the ties behind it.
use Rattle.std.specs.Prelude.{◌≡◌, ℕ, List, Option}
use Rattle.ctl_io.specs.Sink.{appended, AppendsPart}
use Rattle.plant_config.specs.Plant.{PlantData}
use Rattle.plant_core.specs.HistoryLaws.{KeepsTiesValid}
use Rattle.record_replay.specs.Laws.{Action, history_of, IsHistory}

-- At each place of the history behind a replay's text no tie carries two sources.
abbrev pub NoTieCarriesTwoSources : PlantData → (script output : List ℕ) → Type 0
NoTieCarriesTwoSources plant script output = (actions : List Action)
    → IsHistory plant script output actions → KeepsTiesValid plant (history_of actions)

-- The script has this replay text on this plant: it shows a history in which the script is worked, and at no place of that
-- history does a tie carry two sources.
pub record IsTiedReplay (plant : PlantData) (script output : List ℕ) : Type 0 where
  pub actions : List Action
  pub history : IsHistory plant script output actions
  pub ties : KeepsTiesValid plant (history_of actions)

-- A sink was given the script's replay text.
pub record HasReplayed (plant : PlantData) (script : List ℕ)
    (before now : Option (List ℕ)) : Type 0 where
  pub output : List ℕ
  pub replay : IsTiedReplay plant script output
  pub appends : now ≡ appended before output

-- A sink was given a front of the script's replay text.
pub record HasReplayedFront (plant : PlantData) (script : List ℕ)
    (before now : Option (List ℕ)) : Type 0 where
  pub output : List ℕ
  pub replay : IsTiedReplay plant script output
  pub appends : AppendsPart output before now
