use Rattle.std.proofs.Common.{◌≡◌, [], ◌∷◌, ◌++◌, arith}
use Rattle.tsl_umd5.specs.Packet.{messages_text, packet_text}
use Rattle.tsl_umd5.proofs.PacketLemmas.{packet_begun, three_appended}
use Rattle.tsl_umd5.proofs.write.begin_packet.Goals as goal

pub returns-clause-begun : goal.returns-clause-begun
unfolding packet_text messages_text
returns-clause-begun c =
    let count : c.append.new.out.items ≡ c.args.out.now.items ++ 4 ∷ 0 ∷ [] = cc in
    let screen = rw c.to_le_bytes-2.ensures at c.append-3.ensures.bytes in
    three_appended _ _ _ _ _ _ _ count c.append-2.ensures.bytes screen

pub returns-clause-packet : goal.returns-clause-packet
returns-clause-packet c = packet_begun _ c.args.out.now.items _ c.args.screen c.ranges.screen.fits (grind arith) (returns-clause-begun c)
