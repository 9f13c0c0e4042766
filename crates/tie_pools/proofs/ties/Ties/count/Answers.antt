use Rattle.std.proofs.Common.{◌≡◌, ◌+◌, Some, None, sym, subst}
use Rattle.tie_pools.specs.Counts.{AreCountsOf}
use Rattle.tie_pools.specs.RebuiltInside.{carried_below}
use Rattle.tie_pools.proofs.CommitLemmas.{route_placed}
use Rattle.tie_pools.proofs.RebuiltLemmas.{counted_none, counted_local, counted_tied, counted_room, counted_fits, counted_remote}
use Rattle.tie_pools.proofs.ties.Ties.count.Goals as goal

pub returns-in_default : goal.returns-in_default
returns-in_default c = counted_none c.args.plant.now c.args.points.now.entries c.args.dest c.args.self.now c.requires.plant c.requires.dest c.requires.valid c.requires.counts (sym c.in_default.ensures)

pub returns-in_default-route_of : goal.returns-in_default-route_of
returns-in_default-route_of c = counted_local c.args.plant.now c.args.points.now.entries c.args.dest c.args.self.now c.requires.plant c.requires.dest c.requires.valid c.requires.counts c.in-Some.spot (sym c.in-Some.ensures) (sym c.in_default-route_of.ensures.route)

pub returns-in_default-tie : goal.returns-in_default-tie
returns-in_default-tie c =
    let none : c.in-Some.spot.tie ≡ None = cc in
    absurd (counted_tied c.args.plant.now c.args.points.now.entries c.args.dest c.args.self.now c.requires.plant c.requires.dest c.requires.valid c.requires.counts c.in-Some.spot (sym c.in-Some.ensures) c.in-Some-route_of.route (sym c.in-Some-route_of.ensures.route) none)

pub come_by-requires-clause-places : goal.come_by-requires-clause-places
come_by-requires-clause-places c = route_placed c.args.plant.now (carried_below c.args.points.now.entries c.args.dest) c.args.self.now c.in-Some-route_of.route c.in-Some-route_of.ensures.within c.requires.counts

pub come_by-requires-clause-room : goal.come_by-requires-clause-room
come_by-requires-clause-room c = counted_room c.args.plant.now c.args.points.now.entries c.args.dest c.args.self.now c.requires.plant c.requires.dest c.requires.valid c.requires.counts c.in-Some.spot (sym c.in-Some.ensures) c.in-Some-route_of.route (sym c.in-Some-route_of.ensures.route)

pub come_by-requires-clause-tie : goal.come_by-requires-clause-tie
come_by-requires-clause-tie c =
    let tied : c.in-Some.spot.tie ≡ Some c.in-Some-tie.tie = cc in
    counted_fits c.args.plant.now c.args.points.now.entries c.args.dest c.args.self.now c.requires.plant c.requires.dest c.requires.valid c.requires.counts c.in-Some.spot (sym c.in-Some.ensures) c.in-Some-route_of.route (sym c.in-Some-route_of.ensures.route) c.in-Some-tie.tie tied

pub returns : goal.returns
returns c =
    let tied : c.in-Some.spot.tie ≡ Some c.in-Some-tie.tie = cc in
    subst (AreCountsOf c.args.plant.now (carried_below c.args.points.now.entries (c.args.dest + 1))) (sym c.come_by.ensures)
    (counted_remote c.args.plant.now c.args.points.now.entries c.args.dest c.args.self.now c.requires.plant c.requires.dest c.requires.valid c.requires.counts c.in-Some.spot (sym c.in-Some.ensures) c.in-Some-route_of.route (sym c.in-Some-route_of.ensures.route) c.in-Some-tie.tie tied)
