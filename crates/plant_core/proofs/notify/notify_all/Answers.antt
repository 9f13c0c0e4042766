use Rattle.std.proofs.Common.{sym, ◌∙◌, arith}
use Rattle.change_boards.specs.declared.sort.Sort.TheVariants.{Source}
use Rattle.plant_core.specs.Noticed.{marked_for_all}
use Rattle.plant_core.proofs.Noticed.{same_boards, length-all}
use Rattle.plant_core.proofs.notify.notify_all.Goals as goal

pub returns : goal.returns
returns c =
    let old = c.args.notices.now in
    let count = length-all old c.args.dest Source in
    same_boards c.loop-panel.notices (marked_for_all old c.args.dest Source) (c.loop-panel.invariant.count ∙ sym count) (λ p below. c.loop-panel.invariant.done p (omega (arith, c.requires.panels, c.loop-panel.invariant.count)))
