use Rattle.std.proofs.Common.{◌≡◌, ℕ, ◌≤◌, List, [], ◌∷◌, ◌++◌, length, take, drop, vec_len, ◌∙◌, arith}
use Rattle.tsl_umd5.specs.Packet.{Display, view, packet_text, IsDisplay}
use Rattle.tsl_umd5.proofs.PacketLemmas.{packet_text_is_long, display_added, take_behind, drop_behind, packet_grown}
use Rattle.tsl_umd5.proofs.write.add_display.Goals as goal

pub append_message-requires-clause-length : goal.append_message-requires-clause-length
append_message-requires-clause-length c =
    let long = packet_text_is_long c.args.start c.args.out.now.items c.requires.packet in
    grind arith

pub set_count-requires-clause-within : goal.set_count-requires-clause-within
set_count-requires-clause-within c =
    let long = packet_text_is_long c.args.start c.args.out.now.items c.requires.packet in
    grind arith

pub set_count-requires-clause-fits : goal.set_count-requires-clause-fits
set_count-requires-clause-fits c =
    let long = packet_text_is_long c.args.start c.args.out.now.items c.requires.packet in
    grind arith

-- what stands in the end, whichever packet it was
whole : (c : goal.After-set_count) (screen : ℕ) (ds : List Display) → drop c.args.start c.args.out.now.items ≡ packet_text screen ds
    → c.set_count.new.out.items ≡ take c.args.start c.args.out.now.items ++ packet_text screen (ds ++ view c.args.shown.now ∷ [])
whole c screen ds is_text =
    c.set_count.ensures.set ∙ display_added c.args.start (vec_len c.append_message.new.out) c.args.out.now.items c.append_message.new.out.items screen ds (view c.args.shown.now) (grind arith) is_text c.append_message.ensures.text

within : (c : goal.After-set_count) → c.args.start ≤ length c.args.out.now.items
within c = omega (arith, packet_text_is_long c.args.start c.args.out.now.items c.requires.packet)

pub returns-clause-added : goal.returns-clause-added
returns-clause-added c = λ screen ds is_text. drop_behind c.args.start c.args.out.now.items c.set_count.new.out.items _ (within c) (whole c screen ds is_text)

pub returns-clause-before : goal.returns-clause-before
returns-clause-before c =
    let p = c.requires.packet in
    take_behind c.args.start c.args.out.now.items c.set_count.new.out.items _ (within c) (whole c p.0.screen p.0.displays p.1.is_text)

pub returns-clause-packet : goal.returns-clause-packet
returns-clause-packet c =
    let is_display : IsDisplay (view c.args.shown.now) = record { index = c.append_message.ensures.index; brightness = c.requires.brightness; text = c.requires.text } in
    packet_grown c.args.start c.args.out.now.items c.set_count.new.out.items (view c.args.shown.now) c.requires.packet is_display (grind arith) (returns-clause-added c)
