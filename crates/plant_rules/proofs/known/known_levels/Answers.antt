-- One more level is known.
use Rattle.std.proofs.Common.{◌∙◌}
use Rattle.plant_rules.proofs.KnownLemmas.{is_eq-pair_cmp, KnowsLevels-more}
use Rattle.plant_rules.proofs.known.known_levels.Goals as goal

pub loop-level-preserved : goal.loop-level-preserved
loop-level-preserved c =
    let updates = c.in_ok-insert.ensures.updates.0 in
    KnowsLevels-more c.loop-level.known c.insert.new.self c.args.levels.now c.loop-level.level-index c.level-item.result c.copied-before.result c.loop-level-test.true c.level-item.is
    (c.copied-before.ensures ∙ (rw (c.matrix.ensures, c.level.ensures) at c.get.ensures.value))
    (λ m l. rw (is_eq-pair_cmp c.matrix.result c.level.result m l, c.matrix.ensures, c.level.ensures, c.widened.ensures) at (updates (m, l)))
    c.loop-level.invariant
