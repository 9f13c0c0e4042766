use Rattle.std.proofs.Common.{◌≡◌, Some, None, sym, subst}
use Rattle.crosspoint_state.specs.Ties.{HaveValidTies}
use Rattle.tie_pools.specs.Counts.{AreCountsOf}
use Rattle.tie_pools.proofs.CommitLemmas.{route_placed, as_it_stands, parked_valid, parked_local, parked_tied, parked_fits, parked_remote}
use Rattle.tie_pools.proofs.ties.Ties.park.Goals as goal

pub returns-in_default-clause-points : goal.returns-in_default-clause-points
returns-in_default-clause-points c = sym (as_it_stands c.args.points.now.entries c.args.dest None (sym c.in_default.ensures))

pub returns-in_default-route_of-clause-counts : goal.returns-in_default-route_of-clause-counts
returns-in_default-route_of-clause-counts c =
    subst (λ points. AreCountsOf c.args.plant.now points c.args.self.now) (sym c.set.ensures.entries)
    (parked_local c.args.plant.now c.args.points.now.entries c.args.dest c.requires.dest c.requires.valid c.args.self.now c.in-Some.spot (sym c.in-Some.ensures) (sym c.in_default-route_of.ensures.route) c.requires.counts)

pub returns-in_default-route_of-clause-valid : goal.returns-in_default-route_of-clause-valid
returns-in_default-route_of-clause-valid c =
    subst (HaveValidTies c.args.plant.now) (sym c.set.ensures.entries)
    (parked_valid c.args.plant.now c.args.points.now.entries c.args.dest c.requires.dest c.requires.valid)

pub returns-in_default-tie-clause-counts : goal.returns-in_default-tie-clause-counts
returns-in_default-tie-clause-counts c =
    let none : c.in-Some.spot.tie ≡ None = cc in
    absurd (parked_tied c.args.plant.now c.args.points.now.entries c.args.dest c.requires.dest c.requires.valid c.in-Some.spot c.in-Some-route_of.route (sym c.in-Some.ensures) (sym c.in-Some-route_of.ensures.route) none)

pub leave-requires-clause-tie : goal.leave-requires-clause-tie
leave-requires-clause-tie c =
    let tied : c.in-Some.spot.tie ≡ Some c.in-Some-tie.tie = cc in
    parked_fits c.args.plant.now c.args.points.now.entries c.args.dest c.requires.dest c.requires.valid c.in-Some.spot c.in-Some-route_of.route c.in-Some-tie.tie c.requires.plant (sym c.in-Some.ensures) (sym c.in-Some-route_of.ensures.route) tied

pub returns-clause-counts : goal.returns-clause-counts
returns-clause-counts c =
    let tied : c.in-Some.spot.tie ≡ Some c.in-Some-tie.tie = cc in
    rw (c.set.ensures.entries, c.leave.ensures)
    (parked_remote c.args.plant.now c.args.points.now.entries c.args.dest c.requires.dest c.requires.valid c.args.self.now c.in-Some.spot c.in-Some-route_of.route c.in-Some-tie.tie (sym c.in-Some.ensures) (sym c.in-Some-route_of.ensures.route) tied c.requires.counts)

pub returns-clause-valid : goal.returns-clause-valid
returns-clause-valid c =
    subst (HaveValidTies c.args.plant.now) (sym c.set.ensures.entries)
    (parked_valid c.args.plant.now c.args.points.now.entries c.args.dest c.requires.dest c.requires.valid)

pub leave-requires-clause-places : goal.leave-requires-clause-places
leave-requires-clause-places c = route_placed c.args.plant.now c.args.points.now.entries c.args.self.now c.in-Some-route_of.route c.in-Some-route_of.ensures.within c.requires.counts
