use Rattle.line_text.specs.Lines.{lines}
use Rattle.command_audit.proofs.AuditLemmas.{told}
use Rattle.command_audit.proofs.row.work.Goals as goal

pub returns-in-Ok : goal.returns-in-Ok
returns-in-Ok g c = told c.args.plant.now (lines c.args.text.now) c.in-Ok.verdict _ _ _ c.in-Ok.ensures c.tell.ensures
