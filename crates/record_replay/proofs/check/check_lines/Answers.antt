use Rattle.std.proofs.Common.{arith}
use Rattle.record_replay.proofs.LinesSpellLemmas.{so_far-nothing, so_far-formed, so_far-bad}
use Rattle.record_replay.proofs.check.check_lines.Goals as goal

pub loop-rest-init : goal.loop-rest-init
loop-rest-init c = record { so_far = so_far-nothing c.args.plant.now c.args.script.now; few = omega arith }

pub loop-rest-preserved : goal.loop-rest-preserved
loop-rest-preserved c =
    let found = c.in-Some.ensures in
    record {
      so_far = so_far-formed c.args.plant.now c.args.script.now c.loop-rest.rest.now found.0 c.in-Some.behind.now c.loop-rest.number c.loop-rest.invariant.so_far found.1.lines_are found.2;
      few = omega (arith, c.loop-rest.invariant.few, found.1.shorter);
    }

pub returns-in_default : goal.returns-in_default
returns-in_default c = so_far-bad c.args.plant.now c.args.script.now c.loop-rest.rest.now c.loop-rest.number c.loop-rest.invariant.so_far c.in_default.ensures
