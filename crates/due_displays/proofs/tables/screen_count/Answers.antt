use Rattle.std.proofs.Common.{◌≡◌, ◌<◌, ◌≤◌, length, get_or, ap, ◌∙◌, arith}
use Rattle.due_displays.proofs.TableLemmas.{above_more, above_all, screen_least}
use Rattle.due_displays.proofs.tables.screen_count.Goals as goal
use Rattle.due_displays.proofs.tables.screen_count.Goals.{then-count-screen, else-count-screen}

pub loop-display-preserved : goal.loop-display-preserved
loop-display-preserved c =
    let displays = c.args.plant.now.displays in
    let all = c.displays-display-items.ensures.displays in
    let within : c.loop-display.display-index < length displays = omega (arith, c.loop-display-test.true, ap length all) in
    let at : c.display-item.result ≡ get_or displays c.loop-display.display-index c.display-item.result = c.display-item.is ∙ ap (λ list. get_or list c.loop-display.display-index c.display-item.result) all in
    let least : c.display-item.result.screen ≤ 65534 = screen_least c.args.plant.now c.displays-display-items.ensures.plant c.loop-display.display-index c.display-item.result within at in
    elim c.if-count-screen.branch [
      | then-count-screen w ↦ record {
        above = above_more displays c.loop-display.display-index c.display-item.result c.loop-display.count c.if-count-screen.count at (omega (arith, w.count-is, w.if-count-screen.true)) (omega (arith, w.count-is)) c.loop-display.invariant.above;
        most = omega (arith, w.count-is, least);
      }
      | else-count-screen w ↦ record {
        above = above_more displays c.loop-display.display-index c.display-item.result c.loop-display.count c.if-count-screen.count at (omega (arith, w.count-is)) (omega (arith, w.count-is, w.if-count-screen.false)) c.loop-display.invariant.above;
        most = omega (arith, w.count-is, c.loop-display.invariant.most);
      }
    ]

pub returns-clause-above : goal.returns-clause-above
returns-clause-above c = above_all c.args.plant.now.displays c.loop-display.display-index c.loop-display.count (omega (arith, c.loop-display-test.false, ap length c.displays-display-items.ensures.displays)) c.loop-display.invariant.above
