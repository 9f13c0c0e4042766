use Rattle.std.proofs.Common.{arith}
use Rattle.std.proofs.lemmas.List.{take_rest}
use Rattle.dle_framing.proofs.PieceLemmas.{adds_to}
use Rattle.dle_framing.proofs.pieces.feed_piece.Goals as goal

pub loop-used-preserved : goal.loop-used-preserved
loop-used-preserved c = record {
  within = omega (arith, c.in_ok-used.ensures.within);
  fed = adds_to c.args.piece.now _ c.loop-used.used c.in_ok-used.field-0 c.args.framer.now _ _ _ _ _ c.loop-used.invariant.fed (take_rest c.args.piece.now c.loop-used.used) c.in_ok-used.ensures.adds;
}
