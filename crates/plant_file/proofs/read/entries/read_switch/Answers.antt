use Rattle.std.proofs.Common.{Some, sym, ap, ◌∙◌}
use Rattle.toml.specs.View.{table_view}
use Rattle.plant_file.specs.ReadingInside.{read_as}
use Rattle.plant_file.proofs.SwitchAnswer.{switch-absent, switch-present}
use Rattle.plant_file.proofs.read.entries.read_switch.Goals as goal

pub returns-in-None : goal.returns-in-None
returns-in-None c = sym (switch-absent c.args.entry.now.section c.args.entry.now.number (table_view c.args.entry.now.table.now) c.in-None.ensures)

pub returns-in-Ok : goal.returns-in-Ok
returns-in-Ok c =
    ap (read_as Some) c.in-Ok.ensures ∙ sym (switch-present c.args.entry.now.section c.args.entry.now.number (table_view c.args.entry.now.table.now) _ c.in-Some.ensures)

pub returns-in-Err : goal.returns-in-Err
returns-in-Err c =
    ap (read_as Some) c.in-Err.ensures ∙ sym (switch-present c.args.entry.now.section c.args.entry.now.number (table_view c.args.entry.now.table.now) _ c.in-Some.ensures)
