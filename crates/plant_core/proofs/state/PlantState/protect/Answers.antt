use Rattle.std.proofs.Common.{IfSome, sym, subst}
use Rattle.plant_core.specs.Short.{IsShortDest}
use Rattle.plant_core.proofs.ShortLemmas.{named-short}
use Rattle.plant_core.proofs.state.PlantState.protect.Goals as goal

pub take-requires-clause-short : goal.take-requires-clause-short
take-requires-clause-short c =
    subst (λ found. IfSome found (IsShortDest c.args.self.now.plant)) (sym c.in-Some.ensures.dest) (named-short c.args.self.now c.args.at c.in-Some.ensures.valid.is_plant c.requires)
