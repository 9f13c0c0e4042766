use Rattle.std.proofs.Common.{◌≡◌}
use Rattle.plant_config.specs.DrillPlant.{drill_panels}
use Rattle.plant_config.proofs.drill.panels_of.Given as goal

abbrev pub invariant-loop-number : goal.invariant-loop-number
invariant-loop-number l = l.panels.items ≡ drill_panels l.number
