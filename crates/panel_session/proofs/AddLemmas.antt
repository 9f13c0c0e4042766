-- What is sent once one answer more was added.
use Rattle.std.proofs.Common.{◌≡◌, ℕ, Bool, true, false, if◌then◌else◌, ◌∷◌, ◌++◌, Option, sym, ap, ◌∙◌}
use Rattle.dle_framing.specs.Frame.{frame}
use Rattle.swp08_messages.specs.Dump.{Page}
use Rattle.swp08_messages.specs.Text.{text}
use Rattle.swp08_messages.specs.declared.message.Message.{Message}
use Rattle.plant_core.specs.declared.answer.Answer.TheVariants.{Say, Dumped}
use Rattle.panel_session.specs.OutgoingInside.{Adds}
use Rattle.panel_session.specs.Text.{Output, no_page, page_at, goes_on, with_source, page_frames, frames_behind, with_frame, with_frames}
use Rattle.panel_session.proofs.OutputLemmas.{with_frames-append}

-- What is said comes behind the page.
pub adds_said : (message : Message) (page page_then : Page) (output between output_then : Output) → between ≡ with_frames (page_frames page) output
    → page_then ≡ no_page → output_then ≡ with_frame (frame (text message)) between → Adds (Say message) page output page_then output_then
adds_said message page page_then output between output_then sent none said = λ others.
    let sending = frame (text message) in
    ap (λ (page : Page). with_frames (frames_behind page others) output_then) none
    ∙ ap (with_frames (frames_behind no_page others)) (said ∙ ap (with_frame sending) sent)
    ∙ sym (with_frames-append (page_frames page) (sending ∷ frames_behind no_page others) output)

module _ (matrix level dest : ℕ) (source : Option ℕ) (page : Page) (output : Output) where
  -- What a dump tells goes on with the page,
  pub adds_next : (page_then : Page) → goes_on page matrix level dest ≡ true → page_then ≡ with_source source page
      → Adds (Dumped matrix level dest source) page output page_then output
  adds_next page_then is with_next = λ others.
      let anew = page_frames page ++ frames_behind (with_source source (page_at matrix level dest)) others in
      ap (λ (page : Page). with_frames (frames_behind page others) output) with_next
      ∙ ap (λ (test : Bool). with_frames (if test then frames_behind (with_source source page) others else anew) output) (sym is)

  -- or begins another, and the page is sent.
  pub adds_page : (page_then : Page) (output_then : Output) → goes_on page matrix level dest ≡ false
      → page_then ≡ with_source source (page_at matrix level dest) → output_then ≡ with_frames (page_frames page) output
      → Adds (Dumped matrix level dest source) page output page_then output_then
  adds_page page_then output_then is anew sent = λ others.
      let more = frames_behind (with_source source page) others in
      let next = frames_behind (with_source source (page_at matrix level dest)) others in
      ap (λ (page : Page). with_frames (frames_behind page others) output_then) anew
      ∙ ap (with_frames next) sent
      ∙ sym (with_frames-append (page_frames page) next output)
      ∙ ap (λ (test : Bool). with_frames (if test then more else page_frames page ++ next) output) (sym is)
