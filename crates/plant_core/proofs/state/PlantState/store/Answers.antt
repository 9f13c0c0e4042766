use Rattle.std.proofs.Common.{sym}
use Rattle.plant_core.proofs.ShortLemmas.{short-change}
use Rattle.plant_core.proofs.state.PlantState.store.Goals as goal

pub put-requires-clause-short : goal.put-requires-clause-short
put-requires-clause-short c =
    short-change c.args.self.now.plant c.args.at c.args.source c.in-Some.change c.in-Some.ensures.valid.is_plant (sym c.in-Some.ensures.change) c.requires.dest c.requires.source
