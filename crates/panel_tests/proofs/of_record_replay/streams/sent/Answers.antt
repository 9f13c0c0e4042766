use Rattle.std.proofs.Common.{arith}
use Rattle.tsl_umd5.proofs.PacketLemmas.{packet_text_is_long}
use Rattle.panel_tests.proofs.of_record_replay.streams.sent.Goals as goal

pub replay_script_to-ended-requires-clause-takes : goal.replay_script_to-ended-requires-clause-takes
replay_script_to-ended-requires-clause-takes c κs = λ packet lamps. omega (arith, packet_text_is_long 0 packet lamps.read)
