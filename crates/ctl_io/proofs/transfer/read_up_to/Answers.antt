use Rattle.std.proofs.Common.{◌≡◌, ◌∙◌, ap, length, take, arith, length-take-le}
use Rattle.ctl_io.specs.Source.{got}
use Rattle.ctl_io.proofs.SourceLemmas.{takes_all, takes_further}
use Rattle.ctl_io.proofs.transfer.read_up_to.Goals as goal

-- a read that failed took nothing
pub returns-in-Failed-clause-most : goal.returns-in-Failed-clause-most
returns-in-Failed-clause-most g c =
    let piece = c.in_ok-n.ensures.piece in
    let read = take c.loop-count.count c.loop-count.whole.items in
    let long : length read ≡ c.loop-count.count = length-take-le _ _ c.loop-count.invariant.read in
    let none : length piece.piece ≡ 0 = piece.counted ∙ ap got c.in-Failed.is in
    takes_further c.args.limit 0 read _ _ _ c.loop-count.invariant.taken (takes_all 0 piece.piece _ _ piece.taken (omega (arith, none))) (omega (arith, long, c.loop-count-test.true))
