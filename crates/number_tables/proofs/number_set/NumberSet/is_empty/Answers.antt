use Rattle.number_tables.proofs.LowestLemmas.{is_none-empty}
use Rattle.number_tables.proofs.number_set.NumberSet.is_empty.Goals as goal

pub returns : goal.returns
returns c = is_none-empty c.args.self.now c.lowest.result c.is_none.result c.lowest.ensures.lowest c.is_none.ensures
