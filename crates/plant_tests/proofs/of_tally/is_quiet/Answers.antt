use Rattle.std.proofs.Common.{Some, None, ap, ◌∙◌}
use Rattle.std.specs.FinMap.{empty, get}
use Rattle.crosspoint_state.specs.Crosspoints.{Crosspoints}
use Rattle.tally.specs.Moved.{has_moved}
use Rattle.plant_tests.proofs.QuietMoves.{others_parked, put_moved}
use Rattle.plant_tests.proofs.of_tally.is_quiet.Goals as goal

pub follow-requires-clause-alone : goal.follow-requires-clause-alone
follow-requires-clause-alone g c other unlike =
    ap (λ (points : Crosspoints). get points other) (c.new-graph.ensures.crosspoints ∙ c.set.ensures.entries)
    ∙ others_parked c.args.points.now.entries c.of-dest.result (Some (record { source = c.of-camera.result; tie = None })) c.requires.parked other unlike

pub follow-requires-clause-moved : goal.follow-requires-clause-moved
follow-requires-clause-moved g c =
    ap (λ (points : Crosspoints). has_moved empty points c.of-dest.result) (c.new-graph.ensures.crosspoints ∙ c.set.ensures.entries)
    ∙ put_moved c.args.points.now.entries c.of-dest.result (record { source = c.of-camera.result; tie = None })
