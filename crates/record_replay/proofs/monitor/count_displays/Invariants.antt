use Rattle.std.proofs.Common.{◌≡◌, ◌≤◌, ◌+◌, length}
use Rattle.tsl_umd5.specs.Layout.{max_packet}
use Rattle.tsl_umd5.specs.Packet.{messages_text}
use Rattle.tsl_umd5.specs.Reading.{packet_reading}
use Rattle.record_replay.specs.MonitorInside.{count_in}
use Rattle.record_replay.proofs.monitor.count_displays.Given as goal

abbrev pub invariant-loop-count : goal.invariant-loop-count
invariant-loop-count l = record {
  all : l.count + length l.packet.displays ≡ count_in (packet_reading l.bytes);
  few : l.count + length (messages_text l.packet.displays) ≤ max_packet;
}

abbrev pub decreases-loop-count : goal.decreases-loop-count
decreases-loop-count l = length l.packet.displays
