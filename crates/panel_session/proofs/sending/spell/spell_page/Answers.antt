use Rattle.std.proofs.Common.{◌≡◌, ℕ, List, ◌++◌, length, ap, ◌∙◌, arith, length-append}
use Rattle.dle_framing.specs.Frame.{frame}
use Rattle.swp08_messages.specs.Dump.{page_text}
use Rattle.panel_session.proofs.FrameRoom.{page-len, page_frame-most}
use Rattle.panel_session.proofs.sending.spell.spell_page.Goals as goal

pub encode_frame-requires-clause-bytes : goal.encode_frame-requires-clause-bytes
encode_frame-requires-clause-bytes c =
    let is : c.deref.result.now ≡ page_text c.args.page.now = c.deref.ensures.value ∙ c.write.ensures.text ∙ ap (λ (bytes : List ℕ). bytes ++ page_text c.args.page.now) c.clear.ensures.items in (
      omega (arith, page-len c.args.page.now c.deref.result.now is),
      omega (arith, page-len c.args.page.now c.deref.result.now is, c.write.ensures.most),
    )

pub encode_frame-requires-clause-room : goal.encode_frame-requires-clause-room
encode_frame-requires-clause-room c =
    let is : c.deref.result.now ≡ page_text c.args.page.now = c.deref.ensures.value ∙ c.write.ensures.text ∙ ap (λ (bytes : List ℕ). bytes ++ page_text c.args.page.now) c.clear.ensures.items in
    omega (arith, c.requires.frame_room, c.requires.some, page_frame-most c.args.page.now c.deref.result.now is)

pub returns-clause-frame : goal.returns-clause-frame
returns-clause-frame c =
    let is : c.deref.result.now ≡ page_text c.args.page.now = c.deref.ensures.value ∙ c.write.ensures.text ∙ ap (λ (bytes : List ℕ). bytes ++ page_text c.args.page.now) c.clear.ensures.items in
    c.encode_frame.ensures.frame ∙ ap (λ (bytes : List ℕ). c.args.out.now.items ++ frame bytes) is

pub returns-clause-most : goal.returns-clause-most
returns-clause-most c =
    let is : c.deref.result.now ≡ page_text c.args.page.now = c.deref.ensures.value ∙ c.write.ensures.text ∙ ap (λ (bytes : List ℕ). bytes ++ page_text c.args.page.now) c.clear.ensures.items in
    omega (arith, ap (length {A = ℕ}) c.encode_frame.ensures.frame, length-append c.args.out.now.items (frame c.deref.result.now), c.requires.some, page_frame-most c.args.page.now c.deref.result.now is)
