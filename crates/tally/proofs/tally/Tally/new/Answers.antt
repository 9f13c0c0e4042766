use Rattle.std.proofs.Common.{◌<◌, ℕ, List, sym, subst}
use Rattle.std.specs.List.{All}
use Rattle.tally.specs.Tally.{roots_of}
use Rattle.tally.proofs.StartLemmas.{mains_below, roots_main}
use Rattle.tally.proofs.tally.Tally.new.Goals as goal

pub set_of-requires : goal.set_of-requires
set_of-requires c =
    subst (λ (dests : List ℕ). All (λ dest. dest < 65536) dests) (sym c.of-dests.ensures)
    (mains_below c.args.plant.now (roots_of c.args.plant.now c.args.roots) c.requires (roots_main c.args.plant.now c.args.roots c.requires))
