-- No tie carries two sources in any history of a plant.
use Rattle.std.proofs.Common.{ℕ, List}
use Rattle.plant_config.specs.Plant.{PlantData}
use Rattle.plant_config.specs.IsPlant.{IsPlant}
use Rattle.plant_core.proofs.HistoryLemmas.{keeps_ties_valid}
use Rattle.record_replay.specs.Laws.{history_of}
use Rattle.record_replay.specs.TiedReplay.{NoTieCarriesTwoSources}

pub no_two_sources : (plant : PlantData) (script output : List ℕ) → IsPlant plant → NoTieCarriesTwoSources plant script output
no_two_sources plant script output is = λ actions history. keeps_ties_valid plant (history_of actions) is
