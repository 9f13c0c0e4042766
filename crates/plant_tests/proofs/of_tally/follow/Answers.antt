use Rattle.std.proofs.Common.{arith}
use Rattle.std.specs.FinMap.{empty}
use Rattle.plant_tests.proofs.QuietMoves.{reads_little, one_moved}
use Rattle.plant_tests.proofs.of_tally.follow.Goals as goal

pub update-requires-clause-wired : goal.update-requires-clause-wired
update-requires-clause-wired g c = rw c.requires.of c.requires.wired

pub update-requires-clause-tapped : goal.update-requires-clause-tapped
update-requires-clause-tapped g c = rw c.requires.of c.requires.tapped

pub update-requires-clause-before : goal.update-requires-clause-before
update-requires-clause-before g c =
    rw c.requires.of
    (empty, (c.args.plant.now.air, record { before = c.requires.tally; moved = one_moved c.args.plant.now c.args.plant.now.air c.args.graph.now.crosspoints c.args.change.now c.requires.off c.requires.alone c.from_ref.result.now c.from_ref.ensures.value c.requires.moved }))

pub returns-clause-kept : goal.returns-clause-kept
returns-clause-kept g c =
    let kept = rw c.requires.of at c.update.ensures.kept in
    kept empty c.args.plant.now.air (record { before = c.requires.tally; moved = one_moved c.args.plant.now c.args.plant.now.air c.args.graph.now.crosspoints c.args.change.now c.requires.off c.requires.alone c.from_ref.result.now c.from_ref.ensures.value c.requires.moved })

pub returns-clause-counted : goal.returns-clause-counted
returns-clause-counted g c =
    let counted = (rw c.requires.of at c.update.ensures.counted) empty c.args.plant.now.air
    (record { before = c.requires.tally; moved = one_moved c.args.plant.now c.args.plant.now.air c.args.graph.now.crosspoints c.args.change.now c.requires.off c.requires.alone c.from_ref.result.now c.from_ref.ensures.value c.requires.moved }) in
    let little = reads_little c.args.plant.now c.args.plant.now.air c.args.graph.now.crosspoints c.args.change.now c.requires.off c.requires.alone c.requires.switches in
    omega (arith, counted, little)
