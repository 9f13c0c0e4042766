use Rattle.plant_names.proofs.LookupLemmas.{dests_are_named}
use Rattle.plant_names.proofs.laws.dests_have_their_names.Goals as goal

pub returns : goal.returns
returns c = dests_are_named
