-- Each line tells an entry more.
use Rattle.std.proofs.Common.{arith}
use Rattle.trace_lines.specs.Trace.{entry_of}
use Rattle.trace_audit.proofs.ReadLemmas.{read-count, read-more}
use Rattle.trace_audit.proofs.trace.read_lines.Goals as goal

pub put-requires-clause-lines : goal.put-requires-clause-lines
put-requires-clause-lines c =
    omega (arith, read-count c.args.plant.now c.args.text.now c.loop-before.rest.now c.loop-before.kept c.loop-before.before c.loop-before.invariant, c.loop-before-test.true)

pub loop-before-preserved : goal.loop-before-preserved
loop-before-preserved c =
    read-more c.args.plant.now c.args.text.now c.loop-before.rest.now c.split_line.result.0.now c.split_line.result.1.now (entry_of c.in-Some.traced) c.loop-before.kept c.put.new.self c.loop-before.before c.loop-before.invariant
    c.split_line.ensures.lines c.split_line.ensures.shorter c.in-Some.ensures.found
    (λ entries are. c.in_ok-put.ensures c.args.plant.now entries c.in-Some.ensures.found.fits are)
