-- The room of a message's frame, and of a page's.
use Rattle.std.proofs.Common.{◌≡◌, ℕ, ◌+◌, ◌*◌, ◌≤◌, List, length, ap, arith}
use Rattle.std.specs.Prelude.{◌==◌}
use Rattle.dle_framing.specs.Numbers.{dle}
use Rattle.swp08_messages.specs.declared.message.Message.TheVariants.{Interrogate, Connect}
use Rattle.swp08_messages.specs.Dump.{Page, page_text}
use Rattle.swp08_messages.proofs.DumpLemmas.{length-page_text}
use Rattle.std.proofs.lemmas.List.Sums.{count_by-le-length}
use Rattle.dle_framing.specs.Frame.{body, frame}
use Rattle.dle_framing.proofs.FrameLemmas.{length-body, length-doubled, length-frame}
use Rattle.swp08_messages.specs.declared.message.Message.{Message}
use Rattle.swp08_messages.specs.Text.{text}

-- a frame has at most two bytes for each of its body, and four more
pub frame-most : (bytes : List ℕ) → length (frame bytes) ≤ 2 * length bytes + 8
frame-most bytes = omega (arith, length-frame bytes, length-doubled (body bytes), length-body bytes, count_by-le-length (λ (byte : ℕ). byte == dle) (body bytes))

-- Canonical DATA are short, and so is their frame.
text-most : (message : Message) → length (text message) ≤ 8
text-most (Interrogate at) = omega arith
text-most (Connect at source) = omega arith
text-most message = omega arith

pub message_frame-most : (message : Message) (bytes : List ℕ) → bytes ≡ text message → length (frame bytes) ≤ 24
message_frame-most message bytes is = omega (arith, frame-most bytes, ap (length {A = ℕ}) is, text-most message)

-- So is the frame of a page, by its destinations.
pub page-len : (page : Page) (bytes : List ℕ) → bytes ≡ page_text page → length bytes ≡ 2 * length page.sources + 5
page-len page bytes is = omega (arith, ap (length {A = ℕ}) is, length-page_text page)

pub page_frame-most : (page : Page) (bytes : List ℕ) → bytes ≡ page_text page → length (frame bytes) ≤ 4 * length page.sources + 18
page_frame-most page bytes is = omega (arith, frame-most bytes, page-len page bytes is)
