use Rattle.std.proofs.Common.{rules, ap, ◌∙◌}
use Rattle.number_tables.specs.TableInside.{entries_from}
use Rattle.number_tables.proofs.TableLemmas.{entries-replicate}
use Rattle.number_tables.proofs.number_map.NumberMap.new.Goals as goal

pub returns-clause-empty : goal.returns-clause-empty
returns-clause-empty g c =
    ap (entries_from 0) (c.in_ok-values.ensures.items_if_clones_equal (λ y same. search rules)) ∙ entries-replicate _
