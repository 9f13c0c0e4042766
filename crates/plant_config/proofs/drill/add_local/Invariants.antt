use Rattle.std.proofs.Common.{◌≡◌, ◌++◌}
use Rattle.plant_config.specs.DrillPlant.{local_sources}
use Rattle.plant_config.proofs.drill.add_local.Given as goal

abbrev pub invariant-loop-number : goal.invariant-loop-number
invariant-loop-number l = l.sources.items ≡ l.initial.sources.items ++ local_sources l.first l.number
