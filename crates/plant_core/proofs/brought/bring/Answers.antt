use Rattle.std.proofs.Common.{sym, ◌∙◌}
use Rattle.plant_core.proofs.BroughtLemmas.{brought_same, brought_found}
use Rattle.plant_core.proofs.brought.bring.Goals as goal

pub returns-in-Some-clause-brought : goal.returns-in-Some-clause-brought
returns-in-Some-clause-brought c =
    brought_found c.args.points.now.entries c.args.dest c.in-Some.field-0 c.source_at-source.result c.args.changes.now.items c.push_reserved.new.self.items c.requires.before c.source_at-source.ensures c.in-Some.is c.push_reserved.ensures.items

pub returns-in-None-clause-brought : goal.returns-in-None-clause-brought
returns-in-None-clause-brought c = brought_same c.args.points.now.entries c.args.dest c.args.changes.now.items c.requires.before (sym c.source_at-source.ensures ∙ c.in-None.is)
