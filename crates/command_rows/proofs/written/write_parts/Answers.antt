use Rattle.std.proofs.Common.{◌++◌}
use Rattle.command_rows.proofs.WrittenLemmas.{both-all, both-front}
use Rattle.command_rows.proofs.written.write_parts.Goals as goal

pub returns-then-write_pair-clause-all : goal.returns-then-write_pair-clause-all
returns-then-write_pair-clause-all g c =
    both-all c.write_all.result (c.args.front.now ++ c.args.middle.now) c.args.end.now _ _ _ c.if-write_pair.ensures.all c.write_all.ensures.all

pub returns-then-write_pair-clause-front : goal.returns-then-write_pair-clause-front
returns-then-write_pair-clause-front g c =
    both-front c.write_all.result (c.args.front.now ++ c.args.middle.now) c.args.end.now _ _ _ c.if-write_pair.ensures.all c.write_all.ensures.part
