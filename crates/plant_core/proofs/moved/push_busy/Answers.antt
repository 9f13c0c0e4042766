use Rattle.std.proofs.Common.{sym, ◌∙◌}
use Rattle.plant_core.proofs.BusyLemmas.{busy_idle, busy_other}
use Rattle.plant_core.proofs.moved.push_busy.Goals as goal

pub returns-then-is_idle-clause-items : goal.returns-then-is_idle-clause-items
returns-then-is_idle-clause-items c = busy_idle c.args.points.now.entries c.args.list.now.items c.args.change.now (sym c.is_idle.ensures ∙ c.if-is_idle.true)

pub returns-clause-items : goal.returns-clause-items
returns-clause-items c = c.push_reserved.ensures.items ∙ busy_other c.args.points.now.entries c.args.list.now.items c.args.change.now (sym c.is_idle.ensures ∙ c.if-is_idle.false)
