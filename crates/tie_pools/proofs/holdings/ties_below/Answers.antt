use Rattle.std.proofs.Common.{ap, ◌∙◌}
use Rattle.std.specs.FinSet.{insert}
use Rattle.tie_pools.proofs.FreeLemmas.{below_none, below_more}
use Rattle.tie_pools.proofs.holdings.ties_below.Goals as goal

pub loop-tie-init : goal.loop-tie-init
loop-tie-init c = c.new-ties.ensures ∙ below_none

pub loop-tie-preserved : goal.loop-tie-preserved
loop-tie-preserved c =
    c.insert.ensures
    ∙ ap (λ ties. insert ties c.loop-tie.tie) c.loop-tie.invariant
    ∙ below_more c.loop-tie.tie
