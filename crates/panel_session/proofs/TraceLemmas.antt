-- How the parts of a trace's line are appended.
use Rattle.std.proofs.Common.{◌≡◌, ℕ, ◌+◌, ◌≤◌, List, [], ◌∷◌, ◌++◌, length, refl, sym, ap, ◌∙◌, length-append, arith}
use Rattle.std.proofs.lemmas.List.{append-nil, append_assoc}
use Rattle.std.specs.List.{flat_map}
use Rattle.hex.specs.Hex.{encode_upper}
use Rattle.panel_session.specs.Text.{Output, with_frame, with_frames}
use Rattle.trace_lines.specs.TraceLine.{told_bytes}

-- what was appended is no longer than what room was used
pub appended-most : (out more new : List ℕ) (most : ℕ) → new ≡ out ++ more → length new ≤ length out + most → length more ≤ most
appended-most out more new most is within = omega (arith, length-append out more, ap (length {A = ℕ}) is)

-- the bytes of frames that are sent
pub frames-bytes : (frames : List (List ℕ)) (output : Output) → (with_frames frames output).bytes ≡ output.bytes ++ flat_map (λ sent. sent) frames
frames-bytes [] output = sym (append-nil output.bytes)
frames-bytes (sent ∷ frames) output =
    frames-bytes frames (with_frame sent output) ∙ append_assoc output.bytes sent (flat_map (λ sent. sent) frames)

pub longer : (out more new : List ℕ) → new ≡ out ++ more → length new ≡ length out + length more
longer out more new is = ap (length {A = ℕ}) is ∙ length-append out more

-- bytes, where there are some, are told in hexadecimal
pub told_some : (bytes : List ℕ) → (bytes ≡ [] → ⊥) → told_bytes bytes ≡ encode_upper bytes
told_some [] some = absurd (some refl)
told_some (byte ∷ bytes) some = refl
