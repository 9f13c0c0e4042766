use Rattle.plant_core.proofs.tables.Tables.new.Goals as goal

pub returns : goal.returns
returns c = record {
  counted = c.in_ok-ties.ensures;
  wired = c.in_ok-mixers.ensures;
  tallied = c.in_ok-tallies.ensures;
  screened = c.in_ok-screens.ensures;
}
