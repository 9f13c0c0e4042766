use Rattle.command_audit.proofs.VerdictLemmas.{difference-all, difference-front, difference-cut}
use Rattle.command_audit.proofs.verdict.write_difference.Goals as goal

pub returns-then-write_number-clause-all : goal.returns-then-write_number-clause-all
returns-then-write_number-clause-all g c =
    difference-all c.write_replies.result c.args.position c.args.kept.now c.args.wanted.now _ _ _ c.if-write_number.ensures.all c.write_replies.ensures.all

pub returns-then-write_number-clause-front : goal.returns-then-write_number-clause-front
returns-then-write_number-clause-front g c =
    difference-front c.write_replies.result c.args.position c.args.kept.now c.args.wanted.now _ _ _ c.if-write_number.ensures.all c.write_replies.ensures.front

pub returns-else-write_number-clause-front : goal.returns-else-write_number-clause-front
returns-else-write_number-clause-front g c =
    difference-cut c.write_number.result c.args.position c.args.kept.now c.args.wanted.now _ _ c.write_number.ensures.front
