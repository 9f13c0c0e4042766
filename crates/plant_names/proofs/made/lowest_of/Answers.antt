use Rattle.std.proofs.Common.{ap, find, ◌==◌, ◌∙◌}
use Rattle.plant_config.specs.declared.records.Level.{Level}
use Rattle.plant_names.specs.Pages.{lowest_level}
use Rattle.plant_names.proofs.TableLemmas.{IsTable-push}
use Rattle.plant_names.proofs.made.lowest_of.Goals as goal

pub loop-matrix-preserved : goal.loop-matrix-preserved
loop-matrix-preserved c =
    let next = c.lowest_among.ensures ∙ ap (find (λ (at : Level). at.matrix == c.loop-matrix.matrix)) c.levels-levels.ensures.levels in
    rw c.in_ok-push.ensures.items (IsTable-push (lowest_level c.args.plant.now) c.loop-matrix.matrix c.loop-matrix.lowest.items _ c.loop-matrix.invariant next)
