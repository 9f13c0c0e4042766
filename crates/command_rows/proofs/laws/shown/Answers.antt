use Rattle.command_rows.proofs.ShownLemmas.{counts_on, follows_shown}
use Rattle.command_rows.proofs.LeavesLemmas.{gives_back, leaves_others}
use Rattle.command_rows.proofs.ShownPlantLemmas.{shown_plants}
use Rattle.command_rows.proofs.laws.shown.Goals as goal

pub returns-clause-follows : goal.returns-clause-follows
returns-clause-follows c = follows_shown

pub returns-clause-counts : goal.returns-clause-counts
returns-clause-counts c = counts_on

pub returns-clause-sources : goal.returns-clause-sources
returns-clause-sources c = gives_back

pub returns-clause-others : goal.returns-clause-others
returns-clause-others c = leaves_others

pub returns-clause-plants : goal.returns-clause-plants
returns-clause-plants c = shown_plants c.a_plant_file_is_right.ensures
