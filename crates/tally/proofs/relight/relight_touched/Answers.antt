use Rattle.std.proofs.Common.{◌≡◌, ℕ, ◌+◌, List, ◌++◌, take, length, sym, subst, ap, ◌∙◌, arith, length-append}
use Rattle.tally.specs.Touched.{with_switched, touched_by}
use Rattle.tally.specs.Relit.{AreRelit}
use Rattle.tally.proofs.ListLemmas.{touched_more}
use Rattle.tally.proofs.RelitLemmas.{relit_then}
use Rattle.tally.proofs.relight.relight_touched.Goals as goal

pub loop-change-preserved : goal.loop-change-preserved
loop-change-preserved g c =
    let plant = c.args.graph.now.plant in
    let changes = c.args.changes.now in
    let i = c.loop-change.change-index in
    let change = c.change-item.result in
    let before = touched_by plant (take i changes) in
    let here = with_switched plant change.dest in
    let more : touched_by plant (take (i + 1) changes) ≡ before ++ here = touched_more plant changes i change c.loop-change-test.true c.change-item.is in
    let many : length (touched_by plant (take (i + 1) changes)) ≡ length before + length here = ap length more ∙ length-append before here in
    record {
      relit =
          subst (λ (xs : List ℕ). AreRelit plant c.args.graph.now.crosspoints c.args.roots.now xs c.args.marks.now c.relight_switched.new.marks c.args.waiting.now c.relight_switched.new.waiting) (sym more)
          (relit_then plant c.args.graph.now.crosspoints c.args.roots.now before here c.args.marks.now c.loop-change.marks c.relight_switched.new.marks c.args.waiting.now c.loop-change.waiting c.relight_switched.new.waiting c.loop-change.invariant.relit c.relight_switched.ensures.relit);
      counted = omega (arith, many, c.loop-change.invariant.counted, c.relight_switched.ensures.counted);
    }
