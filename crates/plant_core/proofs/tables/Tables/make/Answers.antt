use Rattle.plant_core.proofs.Changes.{moves-applied}
use Rattle.plant_core.proofs.tables.Tables.make.Goals as goal

pub commit-requires : goal.commit-requires
commit-requires c = record {
  dests = λ k d below. (c.requires.changes k d below).dest;
  kept = c.requires.kept;
  once = c.requires.once;
  counts = c.requires.tables.counted;
  valid = c.requires.ties;
  enough = c.requires.enough;
}

pub follow-requires : goal.follow-requires
follow-requires c = record {
  wired = c.requires.tables.wired;
  tapped = c.commit.ensures.kept.tapped;
  dests = λ k d below. (c.requires.changes k d below).dest;
  before = record {
    old = c.args.points.now.entries;
    before = c.requires.tables.tallied;
    moved = moves-applied c.args.plant.now c.args.points.now.entries _ c.args.changes.now c.requires.once c.requires.busy c.commit.ensures.made;
  };
}

pub returns-clause-tables : goal.returns-clause-tables
returns-clause-tables c = record {
  counted = c.commit.ensures.counts;
  wired = c.requires.tables.wired;
  tallied = c.follow.ensures.kept;
  screened = c.requires.tables.screened;
}

pub returns-clause-turned : goal.returns-clause-turned
returns-clause-turned c =
    c.follow.ensures.turned c.args.points.now.entries c.requires.tables.tallied (moves-applied c.args.plant.now c.args.points.now.entries _ c.args.changes.now c.requires.once c.requires.busy c.commit.ensures.made)
