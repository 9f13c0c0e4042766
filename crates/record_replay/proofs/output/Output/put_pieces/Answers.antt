use Rattle.std.proofs.Common.{refl, ◌∙◌, arith}
use Rattle.hex.specs.Hex.{encode_with, upper_digits}
use Rattle.record_replay.specs.OutputLaws.{Puts-none, Puts-more}
use Rattle.record_replay.proofs.EncodeLemmas.{encode_with-piece}
use Rattle.record_replay.proofs.output.Output.put_pieces.Goals as goal

pub loop-at-init : goal.loop-at-init
unfolding encode_with
loop-at-init g c = record { within = omega arith; puts = Puts-none _ _ _; some = refl }

pub loop-at-preserved : goal.loop-at-preserved
loop-at-preserved g c = record {
  within = omega arith;
  puts = rw (encode_with-piece upper_digits c.args.bytes.now c.loop-at.at c.min.result c.loop-at.invariant.within) (Puts-more _ _ _ _ _ _ _ c.loop-at.invariant.puts c.put_hex.ensures.puts);
  some = c.put_hex.ensures.some ∙ c.loop-at.invariant.some;
}
