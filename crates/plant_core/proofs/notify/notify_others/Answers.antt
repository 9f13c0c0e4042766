use Rattle.std.proofs.Common.{sym, ◌∙◌, arith}
use Rattle.plant_core.specs.Noticed.{marked_for_others}
use Rattle.plant_core.proofs.Noticed.{same_boards, length-others}
use Rattle.plant_core.proofs.notify.notify_others.Goals as goal

pub returns : goal.returns
returns c =
    let old = c.args.notices.now in
    let count = length-others old c.args.asker c.args.dest c.args.sort in
    same_boards c.loop-panel.notices (marked_for_others old c.args.asker c.args.dest c.args.sort) (c.loop-panel.invariant.count ∙ sym count) (λ p below. c.loop-panel.invariant.done p (omega (arith, c.requires.panels, c.loop-panel.invariant.count)))
