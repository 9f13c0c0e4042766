use Rattle.commands.proofs.quiet.run_quiet.Goals as goal

pub returns : goal.returns
returns g c = rw c.number.ensures c.run_by_row.ensures
