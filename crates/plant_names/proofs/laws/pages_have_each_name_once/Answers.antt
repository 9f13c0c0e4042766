use Rattle.plant_names.proofs.PageLemmas.{pages_have_all}
use Rattle.plant_names.proofs.laws.pages_have_each_name_once.Goals as goal

pub returns : goal.returns
returns c size = pages_have_all size
