-- What the reader holds while it takes the displays of a packet.
use Rattle.std.specs.Prelude.{◌≡◌, ℕ, ◌<◌, ◌^◌, List, [], length}
use Rattle.std.specs.List.{AllByRecursion}
use Rattle.std.specs.Result.{result_unwrap_or}
use Rattle.tsl_umd5.specs.declared.message.Message.{Message as Held}
use Rattle.tsl_umd5.specs.Layout.{packet_head}
use Rattle.tsl_umd5.specs.Packet.{Display, Message, messages_text, IsDisplay}
use Rattle.tsl_umd5.specs.Reading.{all_at}

-- a message as the reader holds it, without where its text lies in memory
abbrev pub fields : Held → Message
fields m = record { index = m.index; control = m.control; text = m.text.now }

-- the displays whose messages the bytes are
unfoldable pub displays_in : List ℕ → List Display
displays_in bytes = result_unwrap_or (all_at packet_head bytes) []

-- the bytes are the messages of displays
pub record AreMessages (bytes : List ℕ) : Type 0 where
  pub text : bytes ≡ messages_text (displays_in bytes)
  pub displays : AllByRecursion IsDisplay (displays_in bytes)
  pub size : length bytes < 2 ^ 16
