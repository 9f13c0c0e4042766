-- The frames of messages.
use Rattle.std.proofs.Common.{◌≤◌, length, arith}
use Rattle.dle_framing.specs.Numbers.{most_frame}
use Rattle.dle_framing.specs.Frame.{IsData}
use Rattle.dle_framing.proofs.FrameLemmas.{length-frame-le}
use Rattle.swp08_messages.specs.declared.message.Message.{Message}
use Rattle.swp08_messages.specs.declared.message.Message.TheVariants.{Interrogate, Connect}
use Rattle.swp08_messages.specs.Text.{text}
use Rattle.record_replay.specs.Take.{message_frame}

-- A message's DATA can be framed.
pub IsData-text : (message : Message) → IsData (text message)
IsData-text (Interrogate at) = (omega arith, omega arith)
IsData-text (Connect at source) = (omega arith, omega arith)
IsData-text message = (omega arith, omega arith)

-- Its frame is short.
pub frame_within : (message : Message) → length (message_frame message) ≤ most_frame
frame_within message = length-frame-le (text message) (IsData-text message)
