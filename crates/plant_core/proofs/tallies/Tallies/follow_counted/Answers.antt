use Rattle.plant_core.proofs.tallies.Tallies.follow_counted.Goals as goal

pub update-requires-clause-wired : goal.update-requires-clause-wired
update-requires-clause-wired g c = rw (c.new-graph.ensures.plant, c.new-graph.ensures.wiring) c.requires.wired

pub update-requires-clause-tapped : goal.update-requires-clause-tapped
update-requires-clause-tapped g c = rw (c.new-graph.ensures.plant, c.new-graph.ensures.crosspoints, c.new-graph.ensures.taps) c.requires.tapped

pub update-requires-clause-before : goal.update-requires-clause-before
update-requires-clause-before g c =
    let stood = c.requires.before in
    rw (c.new-graph.ensures.plant, c.new-graph.ensures.crosspoints) (stood.old, (c.args.plant.now.air, record { before = stood.before.air; moved = stood.moved }))

pub update-requires-2-clause-wired : goal.update-requires-2-clause-wired
update-requires-2-clause-wired g c = rw (c.new-graph.ensures.plant, c.new-graph.ensures.wiring) c.requires.wired

pub update-requires-2-clause-tapped : goal.update-requires-2-clause-tapped
update-requires-2-clause-tapped g c = rw (c.new-graph.ensures.plant, c.new-graph.ensures.crosspoints, c.new-graph.ensures.taps) c.requires.tapped

pub update-requires-2-clause-before : goal.update-requires-2-clause-before
update-requires-2-clause-before g c =
    let stood = c.requires.before in
    rw (c.new-graph.ensures.plant, c.new-graph.ensures.crosspoints) (stood.old, (c.args.plant.now.preview, record { before = stood.before.preview; moved = stood.moved }))

pub returns-clause-kept : goal.returns-clause-kept
returns-clause-kept g c =
    let stood = c.requires.before in
    let air = rw (c.new-graph.ensures.plant, c.new-graph.ensures.crosspoints) at c.update.ensures.kept in
    let preview = rw (c.new-graph.ensures.plant, c.new-graph.ensures.crosspoints) at c.update-2.ensures.kept in
    record {
      air = air stood.old c.args.plant.now.air (record { before = stood.before.air; moved = stood.moved });
      preview = preview stood.old c.args.plant.now.preview (record { before = stood.before.preview; moved = stood.moved });
    }

pub returns-clause-turned : goal.returns-clause-turned
returns-clause-turned g c old stood moved =
    let air = rw (c.new-graph.ensures.plant, c.new-graph.ensures.crosspoints) at c.update.ensures.flipped in
    let preview = rw (c.new-graph.ensures.plant, c.new-graph.ensures.crosspoints) at c.update-2.ensures.flipped in
    record {
      moved = moved.only;
      air = air old c.args.plant.now.air (record { before = stood.air; moved = moved });
      preview = preview old c.args.plant.now.preview (record { before = stood.preview; moved = moved });
    }
