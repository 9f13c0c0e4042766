use Rattle.std.specs.FinMap.{empty}
use Rattle.plant_core.proofs.BroughtLemmas.{brought_moves, brought_inside}
use Rattle.plant_core.proofs.tables.Tables.settle.Goals as goal

pub rebuild-requires : goal.rebuild-requires
rebuild-requires c = record {
  counts = record { points = empty; counted = c.requires.tables.counted };
  valid = c.requires.ties;
}

pub follow-requires : goal.follow-requires
follow-requires c = record {
  wired = c.requires.tables.wired;
  tapped = c.requires.kept.tapped;
  dests = brought_inside c.args.plant.now c.args.points.now.entries c.args.moves.now c.requires.moves;
  before = record {
    old = empty;
    before = c.requires.tables.tallied;
    moved = brought_moves c.args.plant.now c.args.points.now.entries c.args.moves.now c.requires.plant c.requires.points c.requires.moves;
  };
}

pub returns : goal.returns
returns c = record {
  counted = c.rebuild.ensures;
  wired = c.requires.tables.wired;
  tallied = c.follow.ensures.kept;
  screened = c.requires.tables.screened;
}
