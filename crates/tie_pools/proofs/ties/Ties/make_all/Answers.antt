use Rattle.std.proofs.Common.{ap, sym, subst, ◌∙◌}
use Rattle.crosspoint_state.specs.Ties.{HaveValidTies}
use Rattle.tie_pools.specs.CommitInside.{given_each, AreReady}
use Rattle.tie_pools.proofs.EachLemmas.{each_made, each_ready, each_valid}
use Rattle.tie_pools.proofs.ties.Ties.make_all.Goals as goal

pub give_all-requires-clause-ready : goal.give_all-requires-clause-ready
give_all-requires-clause-ready c =
    subst (λ points. AreReady points c.args.changes.now) (sym c.release_all.ensures.points)
    (each_ready c.args.points.now.entries c.args.changes.now c.requires.once)

pub give_all-requires-clause-valid : goal.give_all-requires-clause-valid
give_all-requires-clause-valid c =
    subst (λ points. HaveValidTies c.args.plant.now (given_each c.args.plant.now points c.args.changes.now)) (sym c.release_all.ensures.points)
    (each_valid c.args.plant.now c.args.points.now.entries c.args.changes.now c.requires.once c.requires.dests c.requires.plant c.requires.valid c.requires.enough)

pub returns-clause-made : goal.returns-clause-made
returns-clause-made c =
    c.give_all.ensures.points
    ∙ ap (λ points. given_each c.args.plant.now points c.args.changes.now) c.release_all.ensures.points
    ∙ each_made c.args.plant.now c.args.points.now.entries c.args.changes.now c.requires.once

pub returns-clause-valid : goal.returns-clause-valid
returns-clause-valid c =
    subst (HaveValidTies c.args.plant.now)
    (sym (c.give_all.ensures.points ∙ ap (λ points. given_each c.args.plant.now points c.args.changes.now) c.release_all.ensures.points))
    (each_valid c.args.plant.now c.args.points.now.entries c.args.changes.now c.requires.once c.requires.dests c.requires.plant c.requires.valid c.requires.enough)
