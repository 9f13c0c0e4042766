use Rattle.std.proofs.Common.{◌++◌}
use Rattle.std.specs.Prelude.{codes}
use Rattle.command_rows.proofs.WrittenLemmas.{both-front}
use Rattle.command_audit.proofs.verdict.write_replies.Goals as goal

pub returns-then-write_parts-clause-front : goal.returns-then-write_parts-clause-front
returns-then-write_parts-clause-front g c =
    both-front c.write_all.result (c.args.kept.now ++ codes " wanted " ++ c.args.wanted.now) (codes "\n") _ _ _ c.if-write_parts.ensures.all c.write_all.ensures.part
