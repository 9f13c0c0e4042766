use Rattle.std.proofs.Common.{◌≡◌, Some, rules}
use Rattle.plant_names.specs.Lookup.{dest_named}
use Rattle.record_replay.proofs.ConnectLemmas.{dest_small}
use Rattle.record_replay.proofs.take.dest_number.Goals as goal

pub returns-clause-below : goal.returns-clause-below
returns-clause-below c =
    let named : dest_named c.args.plant.now c.args.matrix c.args.level c.args.name.now ≡ Some c.in_ok-dest.dest = search rules in
    dest_small c.args.plant.now c.requires.plant c.args.matrix c.args.level c.args.name.now c.in_ok-dest.dest c.point.result named c.point.ensures
