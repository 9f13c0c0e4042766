use Rattle.command_words.specs.Parts.{Prefix}
use Rattle.command_rows.proofs.AlwaysLemmas.{told, missing_first}
use Rattle.command_serve.specs.Serve.{parts, ServeRow}
use Rattle.command_serve.proofs.LawLemmas.{have_causes, are_rows}
use Rattle.command_serve.proofs.laws.services_have_causes.Goals as goal

pub returns-clause-causes : goal.returns-clause-causes
returns-clause-causes g c = have_causes g.P.DisplayPort.was_sent g.P.DisplayPort.faults

pub returns-clause-rows : goal.returns-clause-rows
returns-clause-rows g c = are_rows g.P.DisplayPort.was_sent g.P.DisplayPort.faults

pub returns-clause-stops : goal.returns-clause-stops
returns-clause-stops g c = λ net net_then. told parts Prefix (ServeRow g.P.DisplayPort.was_sent g.P.DisplayPort.faults net net_then)

pub returns-clause-missing : goal.returns-clause-missing
returns-clause-missing g c = λ net net_then. missing_first parts Prefix (ServeRow g.P.DisplayPort.was_sent g.P.DisplayPort.faults net net_then)
