use Rattle.std.proofs.Common.{arith, ◌∙◌, sym}
use Rattle.command_drive.specs.DriveInside.{agrees_at}
use Rattle.command_drive.proofs.CountLemmas.{counted_yes, counted_no}
use Rattle.command_drive.proofs.bench.Bench.agree_count.Goals.{then-agrees, else-agrees}
use Rattle.command_drive.proofs.bench.Bench.agree_count.Goals as goal

pub loop-dest-preserved : goal.loop-dest-preserved
loop-dest-preserved c = record {
  counted = elim c.if-agrees.branch [
    | then-agrees w ↦ counted_yes (agrees_at c.args.self.now) c.loop-dest.dest c.loop-dest.count _ (sym c.agrees.ensures ∙ w.if-agrees.true) w.count-is c.loop-dest.invariant.counted
    | else-agrees w ↦ counted_no (agrees_at c.args.self.now) c.loop-dest.dest c.loop-dest.count _ (sym c.agrees.ensures ∙ w.if-agrees.false) w.count-is c.loop-dest.invariant.counted
  ];
  few = elim c.if-agrees.branch [
    | then-agrees w ↦ omega (arith, w.count-is, c.loop-dest.invariant.few)
    | else-agrees w ↦ omega (arith, w.count-is, c.loop-dest.invariant.few)
  ];
}
