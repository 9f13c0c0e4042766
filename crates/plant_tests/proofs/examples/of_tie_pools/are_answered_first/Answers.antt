use Rattle.plant_tests.proofs.examples.of_tie_pools.are_answered_first.Goals as goal

pub are_answered-requires-clause-valid : goal.are_answered-requires-clause-valid
are_answered-requires-clause-valid g c = rw c.in_ok-points.ensures.parked (c.ties_stay_valid.ensures.none _)
