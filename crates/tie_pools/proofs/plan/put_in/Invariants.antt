use Rattle.std.proofs.Common.{take}
use Rattle.crosspoint_state.specs.Applied.{put_all}
use Rattle.tie_pools.specs.DemandInside.{AreDemandOf}
use Rattle.tie_pools.proofs.plan.put_in.Given as goal

abbrev pub invariant-loop-change : goal.invariant-loop-change
invariant-loop-change l = AreDemandOf l.plant (put_all l.points.entries (take l.change-index l.changes)) l.demand
