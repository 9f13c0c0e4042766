use Rattle.command_rows.proofs.WrittenLemmas.{both-all, both-front}
use Rattle.command_rows.proofs.written.write_pair.Goals as goal

pub returns-then-write_all-clause-all : goal.returns-then-write_all-clause-all
returns-then-write_all-clause-all g c =
    both-all c.write_all-then-write_all.result c.args.front.now c.args.end.now _ _ _ c.if-write_all.ensures.all c.write_all-then-write_all.ensures.all

pub returns-then-write_all-clause-front : goal.returns-then-write_all-clause-front
returns-then-write_all-clause-front g c =
    both-front c.write_all-then-write_all.result c.args.front.now c.args.end.now _ _ _ c.if-write_all.ensures.all c.write_all-then-write_all.ensures.part
