use Rattle.std.proofs.Common.{◌≡◌, ℕ, List, ◌++◌, length, ap, ◌∙◌, arith, length-append}
use Rattle.dle_framing.specs.Frame.{frame}
use Rattle.swp08_messages.specs.Text.{text}
use Rattle.panel_session.proofs.FrameRoom.{message_frame-most}
use Rattle.panel_session.proofs.sending.spell.spell_other.Goals as goal

pub encode_frame-requires-clause-room : goal.encode_frame-requires-clause-room
encode_frame-requires-clause-room c =
    let is : c.deref.result.now ≡ text c.args.message.now = c.deref.ensures.value ∙ c.write.ensures.text ∙ ap (λ (bytes : List ℕ). bytes ++ text c.args.message.now) c.clear.ensures.items in
    omega (arith, c.requires.frame_room, message_frame-most c.args.message.now c.deref.result.now is)

pub returns-clause-frame : goal.returns-clause-frame
returns-clause-frame c =
    let is : c.deref.result.now ≡ text c.args.message.now = c.deref.ensures.value ∙ c.write.ensures.text ∙ ap (λ (bytes : List ℕ). bytes ++ text c.args.message.now) c.clear.ensures.items in
    c.encode_frame.ensures.frame ∙ ap (λ (bytes : List ℕ). c.args.out.now.items ++ frame bytes) is

pub returns-clause-most : goal.returns-clause-most
returns-clause-most c =
    let is : c.deref.result.now ≡ text c.args.message.now = c.deref.ensures.value ∙ c.write.ensures.text ∙ ap (λ (bytes : List ℕ). bytes ++ text c.args.message.now) c.clear.ensures.items in
    omega (arith, ap (length {A = ℕ}) c.encode_frame.ensures.frame, length-append c.args.out.now.items (frame c.deref.result.now), message_frame-most c.args.message.now c.deref.result.now is)
