use Rattle.std.proofs.Common.{◌≡◌, ℕ, ◌+◌, List, ◌++◌, take, length, sym, subst, ap, ◌∙◌, arith, length-append}
use Rattle.tally.specs.Touched.{with_switched, touched_by}
use Rattle.tally.specs.Lost.{AreLost}
use Rattle.tally.proofs.ListLemmas.{touched_more}
use Rattle.tally.proofs.LostLemmas.{lost_then}
use Rattle.tally.proofs.losing.lose_touched.Goals as goal

pub lose_switched-requires-clause-marks : goal.lose_switched-requires-clause-marks
lose_switched-requires-clause-marks g c = (c.requires.marks.0, c.loop-change.invariant.lost.kept c.requires.marks.0 c.requires.marks.1)

pub loop-change-preserved : goal.loop-change-preserved
loop-change-preserved g c =
    let plant = c.args.graph.now.plant in
    let changes = c.args.changes.now in
    let i = c.loop-change.change-index in
    let change = c.change-item.result in
    let before = touched_by plant (take i changes) in
    let here = with_switched plant change.dest in
    let more : touched_by plant (take (i + 1) changes) ≡ before ++ here = touched_more plant changes i change c.loop-change-test.true c.change-item.is in
    let many : length (touched_by plant (take (i + 1) changes)) ≡ length before + length here = ap length more ∙ length-append before here in
    record {
      lost =
          subst (λ (xs : List ℕ). AreLost plant xs c.args.marks.now c.lose_switched.new.marks c.args.waiting.now c.lose_switched.new.waiting c.args.doubted.now) (sym more)
          (lost_then plant c.args.doubted.now before here c.args.marks.now c.loop-change.marks c.lose_switched.new.marks c.args.waiting.now c.loop-change.waiting c.lose_switched.new.waiting c.loop-change.invariant.lost c.lose_switched.ensures.lost);
      counted = omega (arith, many, c.loop-change.invariant.counted, c.lose_switched.ensures.counted);
    }
