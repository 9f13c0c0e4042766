use Rattle.std.proofs.Common.{arith}
use Rattle.plant_config.specs.IsPlant.{IsDest}
use Rattle.tally.specs.Touched.{touched_by}
use Rattle.tally.proofs.SettleLemmas.{first_devices, relit_devices, lighting_begun, settled_again}
use Rattle.tally.proofs.MovedLemmas.{each_named, touched_moved}
use Rattle.tally.proofs.BoundLemmas.{doubt_weighs, relit_weighs}
use Rattle.tally.proofs.settle.settle.Goals as goal

pub spread_doubt-requires-clause-marks : goal.spread_doubt-requires-clause-marks
spread_doubt-requires-clause-marks g c = (c.requires.moved.0, c.lose_touched.ensures.lost.kept c.requires.moved.0 c.requires.moved.1.1.settled.kept)

pub spread_doubt-requires-clause-devices : goal.spread_doubt-requires-clause-devices
spread_doubt-requires-clause-devices g c =
    first_devices c.args.graph.now.plant (touched_by c.args.graph.now.plant c.args.changes.now) c.requires.moved.0 c.args.marks.now c.lose_touched.new.marks c.args.waiting.now c.lose_touched.new.waiting c.args.doubted.now c.requires.moved.1.1.settled.kept c.requires.idle c.lose_touched.ensures.lost

pub relight_touched-requires-clause-marks : goal.relight_touched-requires-clause-marks
relight_touched-requires-clause-marks g c =
    (lighting_begun c.args.graph.now.plant c.requires.wired.is_plant c.requires.moved.0 c.args.graph.now.crosspoints c.requires.moved.1.0 c.args.roots.now c.args.changes.now c.args.marks.now c.lose_touched.new.marks c.spread_doubt.new.marks c.args.waiting.now c.args.doubted.now c.lose_touched.new.waiting c.spread_doubt.new.waiting c.spread_doubt.new.doubted c.requires.moved.1.1 c.requires.idle c.requires.sure c.lose_touched.ensures.lost c.spread_doubt.ensures.spread c.spread_doubt.ensures.all).kept

pub relight_waiting-requires-clause-marks : goal.relight_waiting-requires-clause-marks
relight_waiting-requires-clause-marks g c =
    c.relight_touched.ensures.relit.kept
    (lighting_begun c.args.graph.now.plant c.requires.wired.is_plant c.requires.moved.0 c.args.graph.now.crosspoints c.requires.moved.1.0 c.args.roots.now c.args.changes.now c.args.marks.now c.lose_touched.new.marks c.spread_doubt.new.marks c.args.waiting.now c.args.doubted.now c.lose_touched.new.waiting c.spread_doubt.new.waiting c.spread_doubt.new.doubted c.requires.moved.1.1 c.requires.idle c.requires.sure c.lose_touched.ensures.lost c.spread_doubt.ensures.spread c.spread_doubt.ensures.all).kept

pub relight_waiting-requires-clause-devices : goal.relight_waiting-requires-clause-devices
relight_waiting-requires-clause-devices g c = relit_devices c.args.graph.now.plant c.args.graph.now.crosspoints c.args.roots.now (touched_by c.args.graph.now.plant c.args.changes.now) c.spread_doubt.new.marks c.relight_touched.new.marks c.spread_doubt.new.doubted c.relight_touched.new.waiting c.spread_doubt.ensures.spread.within c.relight_touched.ensures.relit

pub returns-clause-settled : goal.returns-clause-settled
returns-clause-settled g c = λ old list move.
    settled_again c.args.graph.now.plant c.requires.wired.is_plant old c.args.graph.now.crosspoints list c.args.roots.now c.args.changes.now c.args.marks.now c.lose_touched.new.marks c.spread_doubt.new.marks c.args.waiting.now c.args.doubted.now c.lose_touched.new.waiting c.spread_doubt.new.waiting c.spread_doubt.new.doubted move c.requires.idle c.requires.sure c.lose_touched.ensures.lost c.spread_doubt.ensures.spread c.spread_doubt.ensures.all
    c.relight_touched.new.marks c.relight_waiting.new.marks c.relight_touched.new.waiting c.relight_waiting.new.waiting c.relight_touched.ensures.relit c.relight_waiting.ensures.relit c.relight_waiting.ensures.all

pub returns-clause-turned : goal.returns-clause-turned
returns-clause-turned g c = λ was are.
    c.relight_waiting.ensures.relit.turned was (c.relight_touched.ensures.relit.turned was (c.spread_doubt.ensures.spread.turned was (c.lose_touched.ensures.lost.turned was are)))

pub returns-clause-counted : goal.returns-clause-counted
returns-clause-counted g c = λ old list move.
    let settled = settled_again c.args.graph.now.plant c.requires.wired.is_plant old c.args.graph.now.crosspoints list c.args.roots.now c.args.changes.now c.args.marks.now c.lose_touched.new.marks c.spread_doubt.new.marks c.args.waiting.now c.args.doubted.now c.lose_touched.new.waiting c.spread_doubt.new.waiting c.spread_doubt.new.doubted move c.requires.idle c.requires.sure c.lose_touched.ensures.lost c.spread_doubt.ensures.spread c.spread_doubt.ensures.all c.relight_touched.new.marks c.relight_waiting.new.marks c.relight_touched.new.waiting c.relight_waiting.new.waiting c.relight_touched.ensures.relit c.relight_waiting.ensures.relit c.relight_waiting.ensures.all in
    let doubt = doubt_weighs c.args.graph.now.plant c.requires.wired.is_plant old c.args.graph.now.crosspoints list c.args.roots.now c.args.changes.now c.args.marks.now c.lose_touched.new.marks c.spread_doubt.new.marks c.args.waiting.now c.args.doubted.now c.lose_touched.new.waiting c.spread_doubt.new.waiting c.spread_doubt.new.doubted move c.requires.idle c.requires.sure c.lose_touched.ensures.lost c.spread_doubt.ensures.spread c.spread_doubt.ensures.all c.relight_touched.new.marks c.relight_waiting.new.marks c.relight_touched.new.waiting c.relight_waiting.new.waiting c.relight_touched.ensures.relit c.relight_waiting.ensures.relit settled in
    let lit = relit_weighs c.args.graph.now.plant c.requires.wired.is_plant old c.args.graph.now.crosspoints list c.args.roots.now c.args.changes.now c.args.marks.now c.lose_touched.new.marks c.spread_doubt.new.marks c.args.waiting.now c.args.doubted.now c.lose_touched.new.waiting c.spread_doubt.new.waiting c.spread_doubt.new.doubted move c.requires.idle c.requires.sure c.lose_touched.ensures.lost c.spread_doubt.ensures.spread c.spread_doubt.ensures.all c.relight_touched.new.marks c.relight_waiting.new.marks c.relight_touched.new.waiting c.relight_waiting.new.waiting c.relight_touched.ensures.relit c.relight_waiting.ensures.relit settled in
    let plant = c.args.graph.now.plant in
    let few = touched_moved plant old c.args.graph.now.crosspoints list c.args.changes.now move.moved (each_named (IsDest plant) c.args.changes.now c.requires.dests) in
    omega (arith, doubt, lit, few, c.lose_touched.ensures.counted, c.spread_doubt.ensures.counted, c.relight_touched.ensures.counted, c.relight_waiting.ensures.counted)
