use Rattle.std.proofs.Common.{◌≡◌, ◌<◌, sym, ap, subst, ◌∙◌}
use Rattle.std.specs.Option.{IfSome}
use Rattle.std.specs.FinMap.{insert}
use Rattle.plant_config.specs.Limits.{tie_limit}
use Rattle.tie_pools.specs.Counts.{AreCountsOf}
use Rattle.tie_pools.specs.CommitInside.{come_to}
use Rattle.tie_pools.proofs.CommitLemmas.{route_placed, with_chosen, brought_local_tie, brought_local, brought, brought_remote, brought_room}
use Rattle.tie_pools.proofs.ties.Ties.bring.Goals as goal

pub returns-in_default-clause-points : goal.returns-in_default-clause-points
returns-in_default-clause-points c =
    c.set.ensures.entries
    ∙ ap (λ tie. insert c.args.points.now.entries c.args.dest (record { source = c.args.source; tie = tie }))
    (sym (brought_local_tie c.args.plant.now c.args.points.now.entries c.args.dest c.args.source c.args.self.now c.requires.dest c.requires.parked c.requires.counts (sym c.in_default.ensures.route)))

pub returns-in_default-clause-counts : goal.returns-in_default-clause-counts
returns-in_default-clause-counts c =
    subst (λ points. AreCountsOf c.args.plant.now points c.args.self.now) (sym (returns-in_default-clause-points c))
    (brought_local c.args.plant.now c.args.points.now.entries c.args.dest c.args.source c.args.self.now c.requires.dest c.requires.parked c.requires.counts (sym c.in_default.ensures.route))

pub come-tie-requires-clause-room : goal.come-tie-requires-clause-room
come-tie-requires-clause-room c =
    brought_room c.args.plant.now c.args.points.now.entries c.args.dest c.args.source c.args.self.now c.requires.dest c.requires.parked c.requires.counts c.in-Some.route c.requires.plant (sym c.in-Some.ensures.route)

pub come-tie-requires-clause-tie : goal.come-tie-requires-clause-tie
come-tie-requires-clause-tie c =
    let is = brought c.args.plant.now c.args.points.now.entries c.args.dest c.args.source c.args.self.now c.requires.dest c.requires.parked c.requires.counts c.in-Some.route c.requires.plant c.requires.valid (sym c.in-Some.ensures.route) in
    subst (λ found. IfSome found (λ tie. tie < tie_limit)) (sym is.kept) is.below

pub returns-clause-points : goal.returns-clause-points
returns-clause-points c =
    let is = brought c.args.plant.now c.args.points.now.entries c.args.dest c.args.source c.args.self.now c.requires.dest c.requires.parked c.requires.counts c.in-Some.route c.requires.plant c.requires.valid (sym c.in-Some.ensures.route) in
    c.set-2.ensures.entries
    ∙ ap (λ tie. insert c.args.points.now.entries c.args.dest (record { source = c.args.source; tie = tie })) (c.come-tie.ensures.tie ∙ is.kept ∙ sym is.chosen)

pub returns-clause-counts : goal.returns-clause-counts
returns-clause-counts c =
    let is = brought c.args.plant.now c.args.points.now.entries c.args.dest c.args.source c.args.self.now c.requires.dest c.requires.parked c.requires.counts c.in-Some.route c.requires.plant c.requires.valid (sym c.in-Some.ensures.route) in
    let counts : c.come-tie.new.self ≡ come_to c.args.self.now c.in-Some.route is.tie = subst (λ found. IfSome found (λ tie. c.come-tie.new.self ≡ come_to c.args.self.now c.in-Some.route tie)) (c.come-tie.ensures.tie ∙ is.kept) c.come-tie.ensures.counts in
    subst (λ points. AreCountsOf c.args.plant.now points c.come-tie.new.self) (sym (returns-clause-points c))
    (subst (AreCountsOf c.args.plant.now (insert c.args.points.now.entries c.args.dest (with_chosen c.args.plant.now c.args.points.now.entries c.args.source))) (sym counts)
    (brought_remote c.args.plant.now c.args.points.now.entries c.args.dest c.args.source c.args.self.now c.requires.dest c.requires.parked c.requires.counts c.in-Some.route is.tie c.requires.valid (sym c.in-Some.ensures.route) is.chosen is.sized))

pub come-tie-requires-clause-places : goal.come-tie-requires-clause-places
come-tie-requires-clause-places c = route_placed c.args.plant.now c.args.points.now.entries c.args.self.now c.in-Some.route c.in-Some.ensures.within c.requires.counts
