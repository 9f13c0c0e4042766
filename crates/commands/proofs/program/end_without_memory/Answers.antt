use Rattle.commands.proofs.program.end_without_memory.Goals as goal

pub returns : goal.returns
returns g c = rw c.number.ensures c.report.ensures
