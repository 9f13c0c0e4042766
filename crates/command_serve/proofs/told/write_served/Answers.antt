use Rattle.std.proofs.Common.{◌++◌}
use Rattle.std.specs.Prelude.{codes}
use Rattle.std.specs.Fmt.{decimal}
use Rattle.command_rows.specs.Lines.{line}
use Rattle.command_rows.proofs.WrittenLemmas.{both-front}
use Rattle.command_serve.proofs.ServeLemmas.{off-longer}
use Rattle.command_serve.proofs.told.write_served.Goals as goal

pub returns-then-write_number-clause-front : goal.returns-then-write_number-clause-front
returns-then-write_number-clause-front g c =
    both-front c.write_number-then-write_number.result (line (codes "sessions " ++ decimal c.args.sessions)) (line (codes "entries " ++ decimal c.args.entries)) _ _ _ c.if-write_number.ensures.all
    c.write_number-then-write_number.ensures.front

pub returns-else-write_number-clause-front : goal.returns-else-write_number-clause-front
returns-else-write_number-clause-front g c =
    off-longer c.write_number.result (line (codes "sessions " ++ decimal c.args.sessions)) (line (codes "entries " ++ decimal c.args.entries)) _ _ c.write_number.ensures.front
