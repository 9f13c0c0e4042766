use Rattle.std.proofs.Common.{ap, sym, ◌∙◌}
use Rattle.std.specs.FinMap.{get}
use Rattle.number_tables.proofs.TableLemmas.{get-entries}
use Rattle.number_tables.proofs.number_map.NumberMap.get.Goals as goal

pub returns : goal.returns
returns g c =
    let found = rw c.deref.ensures.value at c.value_at.ensures in
    found ∙ sym (get-entries c.self.inside.values.items c.args.number) ∙ ap (λ table. get table.entries c.args.number) c.self.view_is
