use Rattle.std.proofs.Common.{sym, subst}
use Rattle.plant_config.specs.OfFileInside.{HasFewSources}
use Rattle.plant_config.proofs.OfFileLemmas.{at_shown}
use Rattle.plant_config.proofs.of_file.sources.Origins.sources.Goals as goal

pub add_sources-requires : goal.add_sources-requires
add_sources-requires c =
    let few = at_shown HasFewSources c.args.ordered.now c.loop-level.level-index c.level-item.result c.loop-level-test.true c.requires in
    subst (λ level. HasFewSources level.now) (sym c.level-item.is) few
