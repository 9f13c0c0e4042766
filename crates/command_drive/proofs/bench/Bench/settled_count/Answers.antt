use Rattle.std.proofs.Common.{arith, ◌∙◌, sym, ap, is_some}
use Rattle.std.specs.FinMap.{get}
use Rattle.command_drive.proofs.CountLemmas.{counted_yes, counted_no}
use Rattle.command_drive.proofs.bench.Bench.settled_count.Goals.{then-is_some, else-is_some}
use Rattle.command_drive.proofs.bench.Bench.settled_count.Goals as goal

pub loop-dest-preserved : goal.loop-dest-preserved
loop-dest-preserved c = record {
  counted = elim c.if-is_some.branch [
    | then-is_some w ↦ counted_yes (λ dest. is_some (get c.args.self.now.driver.progress.settled dest)) c.loop-dest.dest c.loop-dest.count _ (sym (c.is_some.ensures ∙ ap is_some c.settled.ensures) ∙ w.if-is_some.true) w.count-is c.loop-dest.invariant.counted
    | else-is_some w ↦ counted_no (λ dest. is_some (get c.args.self.now.driver.progress.settled dest)) c.loop-dest.dest c.loop-dest.count _ (sym (c.is_some.ensures ∙ ap is_some c.settled.ensures) ∙ w.if-is_some.false) w.count-is c.loop-dest.invariant.counted
  ];
  few = elim c.if-is_some.branch [
    | then-is_some w ↦ omega (arith, w.count-is, c.loop-dest.invariant.few)
    | else-is_some w ↦ omega (arith, w.count-is, c.loop-dest.invariant.few)
  ];
}
