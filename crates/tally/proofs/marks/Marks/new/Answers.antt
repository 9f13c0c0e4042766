use Rattle.std.proofs.Common.{List, [], ap, ◌∙◌, length, ℕ}
use Rattle.std.proofs.lemmas.List.{length-replicate}
use Rattle.tally.proofs.StartLemmas.{mains_below, settled_parked}
use Rattle.tally.proofs.marks.Marks.new.Goals as goal

pub set_of-requires : goal.set_of-requires
set_of-requires c = mains_below c.args.plant.now c.args.roots.now c.requires.plant c.requires.roots

pub returns-clause-settled : goal.returns-clause-settled
returns-clause-settled c =
    settled_parked c.args.plant.now c.requires.plant c.args.roots.now c.requires.roots c.in_ok-live.live c.in_ok-lit.lit c.in_ok-fed.fed c.in_ok-turned.turned c.in_ok-live.ensures c.source_count.result
    c.in_ok-lit.ensures.heads
    (ap (λ (lists : List (List ℕ)). length lists) c.in_ok-lit.ensures.heads ∙ length-replicate c.source_count.result [] ∙ c.source_count.ensures.count)
    (c.in_ok-lit.ensures.members ∙ c.destination_count.ensures.count)
    c.in_ok-fed.ensures
