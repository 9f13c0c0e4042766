-- The frame that was sent last stands where it was put.
use Rattle.std.proofs.Common.{◌≡◌, ℕ, List, ◌++◌, length, drop, ap, ◌∙◌}
use Rattle.std.proofs.Math.Seq.{drop-append_seam}
use Rattle.dle_framing.specs.Frame.{frame}
use Rattle.panel_session.specs.OutgoingKept.{some_frame}
use Rattle.panel_session.specs.Text.{Output, with_frame}

-- What was put behind bytes that were to be sent is newly sent, and is the last frame.
pub framed : (carried before after : List ℕ) (last : ℕ) (output : Output) → last ≡ length before → before ≡ output.bytes → after ≡ before ++ frame carried
    → record { bytes = after; last = some_frame (drop last after); repeats = 0 } ≡ with_frame (frame carried) output
framed carried before after last output at so_far is =
    let found : drop last after ≡ frame carried = ap (λ (at : ℕ). drop at after) at ∙ ap (drop (length before)) is ∙ drop-append_seam before (frame carried) in
    let bytes : after ≡ output.bytes ++ frame carried = is ∙ ap (λ (before : List ℕ). before ++ frame carried) so_far in
    ap (λ (bytes : List ℕ). record { bytes = bytes; last = some_frame (drop last after); repeats = 0 }) bytes
    ∙ ap (λ (sent : List ℕ). record { bytes = output.bytes ++ frame carried; last = some_frame sent; repeats = 0 }) found
