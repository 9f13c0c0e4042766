use Rattle.tap_lists.proofs.LawLemmas.{UnlinksRemove-all}
use Rattle.tap_lists.proofs.laws.unlinks_remove.Goals as goal

pub returns : goal.returns
returns c = UnlinksRemove-all
