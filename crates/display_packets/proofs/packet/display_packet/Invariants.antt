use Rattle.std.proofs.Common.{◌≡◌, ◌+◌, ◌*◌, ◌≤◌, take, drop, vec_len, vec_capacity}
use Rattle.std.specs.List.{flat_map}
use Rattle.tsl_umd5.specs.Packet.{packet_text, IsPacketText}
use Rattle.display_packets.specs.DisplayPacket.{shown_by}
use Rattle.display_packets.proofs.packet.display_packet.Given as goal

-- Behind what was there stands the packet of what the answers so far show.
abbrev pub invariant-loop-answer : goal.invariant-loop-answer
invariant-loop-answer l = record {
  packet : drop l.start l.out.items ≡ packet_text l.screen (flat_map (shown_by l.plant) (take l.answer-index l.lamps));
  before : take l.start l.out.items ≡ l.fn.out.items;
  is_packet : IsPacketText (drop l.start l.out.items);
  most : vec_len l.out ≤ vec_len l.fn.out + 6 + 18 * l.answer-index;
  room : vec_capacity l.out ≡ vec_capacity l.fn.out;
}
