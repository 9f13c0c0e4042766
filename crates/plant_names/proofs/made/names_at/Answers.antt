use Rattle.std.proofs.Common.{sym}
use Rattle.plant_names.proofs.LevelLemmas.{sources_within, dests_within, told}
use Rattle.plant_names.proofs.made.names_at.Goals as goal

pub names_of_sources-requires : goal.names_of_sources-requires
names_of_sources-requires c = sources_within c.args.plant.now c.level_of.ensures.plant _ c.in-Some.at (sym c.in-Some.ensures.at)

pub index_of-requires : goal.index_of-requires
index_of-requires c = rw (c.deref.ensures.value, c.in_ok-sources.ensures) (told c.args.plant.now c.level_of.ensures.plant _ c.in-Some.at (sym c.in-Some.ensures.at)).sources

pub names_of_dests-requires : goal.names_of_dests-requires
names_of_dests-requires c = dests_within c.args.plant.now c.level_of.ensures.plant _ c.in-Some.at (sym c.in-Some.ensures.at)

pub index_of-requires-2 : goal.index_of-requires-2
index_of-requires-2 c = rw c.names_of_dests.ensures (told c.args.plant.now c.level_of.ensures.plant _ c.in-Some.at (sym c.in-Some.ensures.at)).dests
