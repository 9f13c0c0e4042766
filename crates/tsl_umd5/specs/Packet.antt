-- The one text of a packet of the TSL UMD Protocol V5.0, from its screen and its displays.
-- Fields have the protocol's names. Each field of 16 bits has its low byte first.
use Rattle.std.specs.Prelude.{◌≡◌, ℕ, ◌+◌, ◌*◌, ◌^◌, ◌<◌, ◌≤◌, List, [], ◌∷◌, ◌++◌, length}
use Rattle.std.specs.List.{flat_map, AllByRecursion}
use Rattle.std.specs.Int.{w16, to_le_bytes}
use Rattle.tsl_umd5.specs.declared.lamp.Lamp.{Lamp}
use Rattle.tsl_umd5.specs.declared.shown.Shown.{Shown}
use Rattle.tsl_umd5.specs.Layout.{version, plain_flags, message_head, max_brightness, first_printable, last_printable, max_packet}
use Rattle.tsl_umd5.specs.Lamp.{lamp_code}

-- a display, without where its text lies in memory [TSL UMD V5.0]
pub record Display : Type 0 where
  pub index : ℕ
  pub right : Lamp
  pub middle : Lamp
  pub left : Lamp
  pub brightness : ℕ
  pub text : List ℕ

-- the display that is shown [TSL UMD V5.0]
abbrev pub view : Shown → Display
view s = record {
  index = s.index;
  right = s.right;
  middle = s.middle;
  left = s.left;
  brightness = s.brightness;
  text = s.text.now;
}

-- a field of 16 bits [TSL UMD V5.0]
abbrev pub word : ℕ → List ℕ
word n = to_le_bytes w16 n

-- a display message as its fields, before they are judged [TSL UMD V5.0]
pub record Message : Type 0 where
  pub index : ℕ
  pub control : ℕ
  pub text : List ℕ

-- the fields fit their 16 bits [TSL UMD V5.0]
pub record IsMessage (m : Message) : Type 0 where
  pub index : m.index < 2 ^ 16
  pub control : m.control < 2 ^ 16
  pub text : length m.text < 2 ^ 16

-- INDEX, CONTROL, LENGTH, TEXT [TSL UMD V5.0]
unfoldable pub message_text : Message → List ℕ
message_text m = word m.index ++ word m.control ++ word (length m.text) ++ m.text

-- CONTROL: the right lamp in bits 0 and 1, the text's in 2 and 3, the left one in 4 and 5, the brightness in 6 and 7
-- [TSL UMD V5.0]
abbrev pub control_of : Display → ℕ
control_of d =
    lamp_code d.right + 4 * lamp_code d.middle + 16 * lamp_code d.left + 64 * d.brightness

-- the message that says what a display shows [TSL UMD V5.0]
abbrev pub message_of : Display → Message
message_of d = record { index = d.index; control = control_of d; text = d.text }

-- the message of a display [TSL UMD V5.0]
abbrev pub display_text : Display → List ℕ
display_text d = message_text (message_of d)

-- the bytes of a display's message [TSL UMD V5.0]
abbrev pub message_length : Display → ℕ
message_length d = message_head + length d.text

-- the messages of displays, one after another [TSL UMD V5.0]
unfoldable pub messages_text : List Display → List ℕ
messages_text ds = flat_map display_text ds

-- PBC, the number of the bytes that follow it, and these bytes [TSL UMD V5.0]
abbrev pub with_count : List ℕ → List ℕ
with_count bytes = word (length bytes) ++ bytes

-- what PBC counts: VER, FLAGS, SCREEN and the display messages [TSL UMD V5.0]
abbrev pub counted_text : ℕ → List ℕ → List ℕ
counted_text screen messages = version ∷ plain_flags ∷ word screen ++ messages

-- the text of a screen and its displays [TSL UMD V5.0]
unfoldable pub packet_text : ℕ → List Display → List ℕ
packet_text screen ds = with_count (counted_text screen (messages_text ds))

-- a byte of printable ASCII [profile]
abbrev pub IsPrintable : ℕ → Type 0
IsPrintable b = (first_printable ≤ b) × (b ≤ last_printable)

-- a display that a message can speak of [profile]
pub record IsDisplay (d : Display) : Type 0 where
  pub index : d.index < 2 ^ 16
  pub brightness : d.brightness ≤ max_brightness
  pub text : AllByRecursion IsPrintable d.text

-- a screen and displays whose packet isn't too long [profile]
pub record IsPacket (number : ℕ) (ds : List Display) : Type 0 where
  pub screen : number < 2 ^ 16
  pub displays : AllByRecursion IsDisplay ds
  pub size : length (packet_text number ds) ≤ max_packet

-- a screen and its displays [TSL UMD V5.0]
pub record Contents : Type 0 where
  pub screen : ℕ
  pub displays : List Display

-- the bytes are the packet of this screen and these displays [TSL UMD V5.0]
pub record IsTextOf (bytes : List ℕ) (p : Contents) : Type 0 where
  pub is_packet : IsPacket p.screen p.displays
  pub is_text : bytes ≡ packet_text p.screen p.displays

-- the bytes are a packet [TSL UMD V5.0]
abbrev pub IsPacketText : List ℕ → Type 0
IsPacketText bytes = (p : Contents) × IsTextOf bytes p

-- Whichever screen and displays a packet was of, this display stands behind them. [TSL UMD V5.0]
abbrev pub AddsDisplay : Display → List ℕ → List ℕ → Type 0
AddsDisplay display before after =
    (screen : ℕ) (ds : List Display) → before ≡ packet_text screen ds
    → after ≡ packet_text screen (ds ++ display ∷ [])

-- no two packets have one text [TSL UMD V5.0]
abbrev pub OneText : Type 0
OneText = (bytes : List ℕ) (p q : Contents) → IsTextOf bytes p → IsTextOf bytes q → p ≡ q
