use Rattle.std.proofs.Common.{◌≡◌, arith}
use Rattle.plant_config.specs.DrillPlant.{drill_panels}
use Rattle.plant_config.proofs.DrillParts.{panels_more}
use Rattle.plant_config.proofs.drill.panels_of.Goals as goal

pub loop-number-init : goal.loop-number-init
unfolding drill_panels
loop-number-init c = c.new-panels.ensures.items

pub loop-number-preserved : goal.loop-number-preserved
loop-number-preserved c = rw (c.in_ok-push.ensures.items, c.loop-number.invariant, panels_more c.loop-number.number)

pub returns : goal.returns
returns c = let all : c.loop-number.number ≡ c.args.count = omega arith in rw (c.loop-number.invariant, all)
