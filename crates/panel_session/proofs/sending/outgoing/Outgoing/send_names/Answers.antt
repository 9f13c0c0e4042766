use Rattle.std.proofs.Common.{◌≡◌, ℕ, List, ◌++◌, length, drop, ap, ◌∙◌, arith, length-append}
use Rattle.dle_framing.specs.Frame.{frame}
use Rattle.panel_session.specs.NamePagesInside.{data_of}
use Rattle.panel_session.specs.OutgoingKept.{Buffer, some_frame, sent_as}
use Rattle.panel_session.specs.declared.sending.Sending.{Sending}
use Rattle.panel_session.proofs.FrameLemmas.{framed}
use Rattle.panel_session.proofs.FrameRoom.{frame-most}
use Rattle.panel_session.proofs.NamePageLemmas.{is_written}
use Rattle.panel_session.proofs.sending.outgoing.Outgoing.send_names.Goals as goal

pub encode_frame-requires-clause-bytes : goal.encode_frame-requires-clause-bytes
encode_frame-requires-clause-bytes c =
    let page = data_of c.args.names.now c.args.page in
    let is : c.deref.result.now ≡ page = c.deref.ensures.value ∙ c.spell_names-end.ensures.text in
    let some = is_written c.args.names.now c.args.page c.spell_names-end.result c.spell_names-end.ensures.end c.in_default.not-Nothing in (
      omega (arith, ap (length {A = ℕ}) is, some),
      omega (arith, c.deref.ensures.len, c.spell_names-end.ensures.most),
    )

pub encode_frame-requires-clause-room : goal.encode_frame-requires-clause-room
encode_frame-requires-clause-room c =
    omega (
      arith,
      c.requires.room,
      ap (λ (buffer : Buffer). buffer.room) c.self.view_is,
      ap (λ (buffer : Buffer). length buffer.output.bytes) c.self.view_is,
      ap (length {A = ℕ}) c.begin.ensures.bytes,
      c.begin.ensures.room,
      frame-most c.deref.result.now,
      c.deref.ensures.len,
      c.spell_names-end.ensures.most,
    )

pub returns-clause-sent : goal.returns-clause-sent
returns-clause-sent c = λ some.
    let is : c.deref.result.now ≡ data_of c.args.names.now c.args.page = c.deref.ensures.value ∙ c.spell_names-end.ensures.text in
    let before = c.begin.new.bytes.items in
    let after = c.encode_frame.new.out.items in
    let at : c.begin.new.last_from ≡ length before = omega (arith, c.begin.ensures.last) in
    let appended : after ≡ before ++ frame (data_of c.args.names.now c.args.page) =
    c.encode_frame.ensures.frame ∙ ap (λ (carried : List ℕ). before ++ frame carried) is in
    ap (λ (sending : Sending). record { bytes = sent_as sending after; last = some_frame (drop c.begin.new.last_from after); repeats = c.begin.new.repeats }) c.begin.ensures.sending
    ∙ ap (λ (repeats : ℕ). record { bytes = after; last = some_frame (drop c.begin.new.last_from after); repeats = repeats }) c.begin.ensures.repeats
    ∙ framed (data_of c.args.names.now c.args.page) before after c.begin.new.last_from c.args.self.now.output at
    (c.begin.ensures.bytes ∙ ap (λ (buffer : Buffer). buffer.output.bytes) c.self.view_is) appended

pub returns-clause-most : goal.returns-clause-most
returns-clause-most c =
    let is : length (sent_as c.begin.new.sending c.encode_frame.new.out.items) ≡ length c.encode_frame.new.out.items =
    ap (λ (sending : Sending). length (sent_as sending c.encode_frame.new.out.items)) c.begin.ensures.sending in
    omega (
      arith,
      is,
      ap (λ (buffer : Buffer). length buffer.output.bytes) c.self.view_is,
      ap (length {A = ℕ}) c.begin.ensures.bytes,
      ap (length {A = ℕ}) c.encode_frame.ensures.frame,
      length-append c.begin.new.bytes.items (frame c.deref.result.now),
      frame-most c.deref.result.now,
      c.deref.ensures.len,
      c.spell_names-end.ensures.most,
    )
