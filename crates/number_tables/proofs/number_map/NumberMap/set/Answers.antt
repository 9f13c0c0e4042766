use Rattle.std.proofs.Common.{◌<◌, length, arith, ap, ◌∙◌}
use Rattle.number_tables.specs.Table.{put}
use Rattle.number_tables.proofs.TableLemmas.{entries-set}
use Rattle.number_tables.proofs.number_map.NumberMap.set.Goals as goal

pub index_mut-requires : goal.index_mut-requires
index_mut-requires g c =
    let within : c.args.number < length c.self.inside.values.items = rw (← c.self.view_is) at c.requires in
    omega (arith, c.self.inside.values.ok.0)

pub returns-clause-entries : goal.returns-clause-entries
returns-clause-entries g c =
    let within : c.args.number < length c.self.inside.values.items = rw (← c.self.view_is) at c.requires in
    entries-set c.self.inside.values.items c.args.number c.args.value within
    ∙ ap (λ table. put table.entries c.args.number c.args.value) c.self.view_is
