-- Reading a packet by the rules in their order, with the first fault that is met. `Refusal` says the faults otherwise:
-- by the texts of packets.
use Rattle.std.specs.Prelude.{ℕ, zero, suc, ◌+◌, ◌/◌, ◌%◌, List, [], ◌∷◌, length, take, drop, Bool, not, ◌&&◌, Option, Some, None, Result, Ok, Err, nat_lt, nat_le, ◌==◌, if◌then◌else◌}
use Rattle.std.specs.List.{position}
use Rattle.std.specs.Option.{option_map_or, ok_or}
use Rattle.std.specs.Int.{w16, from_le_bytes}
use Rattle.tsl_umd5.specs.declared.fault.TslFault.{TslFault}
use Rattle.tsl_umd5.specs.declared.fault.TslFault.TheVariants.{TooLong, Short, WrongCount, Version, Flags, ReservedBits, NotAscii}
use Rattle.tsl_umd5.specs.Layout.{version, plain_flags, first_printable, last_printable, max_packet, packet_head, message_head}
use Rattle.tsl_umd5.specs.Lamp.{lamp_of}
use Rattle.tsl_umd5.specs.Packet.{Display, Message, Contents}

-- goes on with what was read; the first fault is the answer
infixl 10 ◌>>=◌
abbrev pub ◌>>=◌ : {A B : Type 0} → Result A TslFault → (A → Result B TslFault)
    → Result B TslFault
(Ok x) >>= f = f x
(Err e) >>= f = Err e

-- the number of a field of 16 bits [TSL UMD V5.0]
abbrev pub field_number : ℕ → ℕ → ℕ
field_number low high = from_le_bytes w16 (low ∷ high ∷ [])

-- the message at the front and the bytes behind it; none where its head or its text goes past the end [TSL UMD V5.0]
unfoldable pub front : List ℕ → Option (Message × List ℕ)
front (i₀ ∷ i₁ ∷ c₀ ∷ c₁ ∷ n₀ ∷ n₁ ∷ bytes) =
    let len = field_number n₀ n₁ in
    if nat_lt (length bytes) len then None
    else Some (
      record {
        index = field_number i₀ i₁;
        control = field_number c₀ c₁;
        text = take len bytes;
      },
      drop len bytes,
    )
front bytes = None

-- what a message says, by the bits of its CONTROL [TSL UMD V5.0]
abbrev pub display_of : Message → Display
display_of m = record {
  index = m.index;
  right = lamp_of (m.control % 4);
  middle = lamp_of (m.control / 4 % 4);
  left = lamp_of (m.control / 16 % 4);
  brightness = m.control / 64;
  text = m.text;
}

-- whether a byte is printable ASCII [profile]
abbrev pub is_printable : ℕ → Bool
is_printable b = nat_le first_printable b && nat_le b last_printable

-- the display of a message that begins at a place, or what is wrong with the message [profile]
unfoldable pub judged : ℕ → Message → Result Display TslFault
judged place m =
    let unprintable = position (λ b. not (is_printable b)) m.text in
    if nat_le 256 m.control then Err (ReservedBits m.index)
    else option_map_or (λ offset. Err (NotAscii (place + message_head + offset))) unprintable
    (Ok (display_of m))

-- the displays of messages one after another, at most so many of them, the first of which begins at a place [profile]
unfoldable pub messages_at : ℕ → ℕ → List ℕ → Result (List Display) TslFault
messages_at zero place bytes = Ok []
messages_at (suc most) place [] = Ok []
messages_at (suc most) place (b ∷ bytes) = do
  first ← ok_or (front (b ∷ bytes)) (Short place)
  display ← judged place first.0
  others ← messages_at most (place + (message_head + length first.0.text)) first.1
  Ok (display ∷ others)

-- the displays of all messages, which are no more than there are bytes [profile]
unfoldable pub all_at : ℕ → List ℕ → Result (List Display) TslFault
all_at place bytes = messages_at (length bytes) place bytes

-- the screen and the displays of bytes that are not too many [profile]
unfoldable pub contents : List ℕ → Result Contents TslFault
contents (p₀ ∷ p₁ ∷ ver ∷ flags ∷ s₀ ∷ s₁ ∷ bytes) =
    let found = length (ver ∷ flags ∷ s₀ ∷ s₁ ∷ bytes) in
    let wanted = field_number p₀ p₁ in
    if not (found == wanted) then Err (WrongCount found wanted)
    else if not (ver == version) then Err (Version ver)
    else if not (flags == plain_flags) then Err (Flags flags)
    else (all_at packet_head bytes >>= λ displays. Ok
    (record { screen = field_number s₀ s₁; displays = displays }))
contents bytes = Err (Short (length bytes))

-- the screen and the displays of a packet, or the first rule that the bytes break [profile]
unfoldable pub packet_reading : List ℕ → Result Contents TslFault
packet_reading bytes =
    if nat_lt max_packet (length bytes) then Err (TooLong (length bytes)) else contents bytes
