use Rattle.std.proofs.Common.{ℕ, List, ◌++◌, ◌∙◌, ap, arith, length}
use Rattle.std.proofs.lemmas.List.{length-append}
use Rattle.dle_framing.specs.Frame.{frame}
use Rattle.swp08_messages.specs.Text.{text}
use Rattle.drill.specs.Stream.{bad_frame}
use Rattle.drill.proofs.RoomLemmas.{good_room, bad_room}
use Rattle.drill.proofs.frames.send.Goals as goal

pub append_bad-requires-clause-room : goal.append_bad-requires-clause-room
append_bad-requires-clause-room c = omega (arith, c.requires.room, bad_room c.args.message.now c.deref.result.now (c.deref.ensures.value ∙ (c.write.ensures.text ∙ ap (λ (front : List ℕ). front ++ text c.args.message.now) c.clear.ensures.items)))

pub encode_frame-requires-clause-room : goal.encode_frame-requires-clause-room
encode_frame-requires-clause-room c = omega (arith, c.requires.room, good_room c.args.message.now c.deref-else-is_bad.result.now (c.deref-else-is_bad.ensures.value ∙ (c.write.ensures.text ∙ ap (λ (front : List ℕ). front ++ text c.args.message.now) c.clear.ensures.items)))

pub returns-then-is_bad-clause-most : goal.returns-then-is_bad-clause-most
returns-then-is_bad-clause-most c = omega (arith, ap length c.append_bad.ensures.bytes, length-append c.args.out.now.items (bad_frame c.deref.result.now), bad_room c.args.message.now c.deref.result.now (c.deref.ensures.value ∙ (c.write.ensures.text ∙ ap (λ (front : List ℕ). front ++ text c.args.message.now) c.clear.ensures.items)))

pub returns-else-is_bad-clause-most : goal.returns-else-is_bad-clause-most
returns-else-is_bad-clause-most c = omega (arith, ap length c.encode_frame.ensures.frame, length-append c.args.out.now.items (frame c.deref-else-is_bad.result.now), good_room c.args.message.now c.deref-else-is_bad.result.now (c.deref-else-is_bad.ensures.value ∙ (c.write.ensures.text ∙ ap (λ (front : List ℕ). front ++ text c.args.message.now) c.clear.ensures.items)))
