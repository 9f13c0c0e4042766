use Rattle.std.proofs.Common.{◌≡◌, ◌+◌, length}
use Rattle.tsl_umd5.specs.Layout.{packet_head}
use Rattle.tsl_umd5.specs.Reading.{all_at}
use Rattle.tsl_umd5.proofs.ReadingInsideLemmas.{Decides}
use Rattle.tsl_umd5.proofs.read.check_messages.Given as goal

abbrev pub invariant-loop-rest : goal.invariant-loop-rest
invariant-loop-rest l = record {
  within : l.place + length l.rest ≡ packet_head + length l.messages;
  decides : Decides (all_at l.place l.rest) (all_at packet_head l.messages);
}

abbrev pub decreases-loop-rest : goal.decreases-loop-rest
decreases-loop-rest l = length l.rest
