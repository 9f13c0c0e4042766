use Rattle.plant_names.proofs.LookupLemmas.{sources_are_named}
use Rattle.plant_names.proofs.laws.sources_have_their_names.Goals as goal

pub returns : goal.returns
returns c = sources_are_named
