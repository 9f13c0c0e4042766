use Rattle.tap_lists.proofs.LawLemmas.{LinksInsertFirst-all}
use Rattle.tap_lists.proofs.laws.links_insert_first.Goals as goal

pub returns : goal.returns
returns c = LinksInsertFirst-all
