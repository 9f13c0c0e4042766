use Rattle.crosspoint_state.proofs.ChangeLists.{IsDistinct-one}
use Rattle.plant_tests.proofs.examples.of_tie_pools.take.Goals as goal

pub plan-requires-clause-once : goal.plan-requires-clause-once
plan-requires-clause-once c = IsDistinct-one _

pub commit-requires-clause-once : goal.commit-requires-clause-once
commit-requires-clause-once c = IsDistinct-one _
