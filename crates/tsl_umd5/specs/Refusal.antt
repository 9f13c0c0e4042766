-- Which rule bytes break first, said by the texts of packets: what stands before the fault is as in a packet.
use Rattle.std.specs.Prelude.{◌≡◌, ◌≢◌, ℕ, ◌+◌, ◌^◌, ◌<◌, ◌≤◌, ◌⊎◌, List, ◌∷◌, ◌++◌, length}
use Rattle.std.specs.List.{AllByRecursion}
use Rattle.tsl_umd5.specs.declared.fault.TslFault.{TslFault}
use Rattle.tsl_umd5.specs.declared.fault.TslFault.TheVariants.{TooLong, Short, WrongCount, Version, Flags, ReservedBits, NotAscii}
use Rattle.tsl_umd5.specs.Layout.{version, plain_flags, max_packet, packet_head, message_head}
use Rattle.tsl_umd5.specs.Packet.{Display, Message, IsMessage, IsDisplay, IsPrintable, word, message_text, messages_text, with_count, counted_text}

-- a message stands at the front of the bytes [profile]
pub record BeginsWith (bytes : List ℕ) (m : Message) : Type 0 where
  pub rest : List ℕ
  pub fits : IsMessage m
  pub parts : bytes ≡ message_text m ++ rest

-- there are bytes, and no message stands at their front: its head or its text goes past the end [profile]
pub record IsCutOff (bytes : List ℕ) : Type 0 where
  pub some : 0 < length bytes
  pub never : (m : Message) → BeginsWith bytes m → ⊥

-- the first byte of a text that is not printable stands at an offset [profile]
pub record FirstUnprintable (text : List ℕ) (offset : ℕ) : Type 0 where
  pub good : List ℕ
  pub bad : ℕ
  pub rest : List ℕ
  pub parts : text ≡ good ++ bad ∷ rest
  pub printable : AllByRecursion IsPrintable good
  pub unprintable : IsPrintable bad → ⊥
  pub is_offset : length good ≡ offset

-- what is wrong with a message that begins at a place [profile]
abbrev pub IsWrong : ℕ → Message → TslFault → Type 0
IsWrong place m (ReservedBits index) = (256 ≤ m.control) × (index ≡ m.index)
IsWrong place m (NotAscii n) =
    (m.control < 256) × (offset : ℕ) × FirstUnprintable m.text offset
    × (n ≡ place + message_head + offset)
IsWrong place m fault = ⊥

-- what is wrong at the front of bytes that begin at a place [profile]
abbrev pub IsBad : ℕ → List ℕ → TslFault → Type 0
IsBad place bytes (Short n) = (n ≡ place) × IsCutOff bytes
IsBad place bytes fault = (m : Message) × BeginsWith bytes m × IsWrong place m fault

-- the packet is right up to a message that is wrong: in front of it stand the messages of displays [profile]
pub record HasBadMessage (bytes : List ℕ) (fault : TslFault) : Type 0 where
  pub screen : ℕ
  pub displays : List Display
  pub rest : List ℕ
  pub screen_fits : screen < 2 ^ 16
  pub displays_fit : AllByRecursion IsDisplay displays
  pub size : length bytes ≤ max_packet
  pub parts : bytes ≡ with_count (counted_text screen (messages_text displays ++ rest))
  pub bad : IsBad (packet_head + length (messages_text displays)) rest fault

-- neither too many bytes for a packet nor too few for its head [profile]
abbrev pub IsSized : List ℕ → Type 0
IsSized bytes = (packet_head ≤ length bytes) × (length bytes ≤ max_packet)

-- The first rule that the bytes break. In the last line are the faults of messages: `ReservedBits` and `NotAscii`. [profile]
abbrev pub IsRefused : List ℕ → TslFault → Type 0
IsRefused bytes (TooLong n) = (n ≡ length bytes) × (max_packet < n)
IsRefused bytes (Short n) = ((n ≡ length bytes) × (n < packet_head)) ⊎ HasBadMessage bytes (Short n)
IsRefused bytes (WrongCount found wanted) =
    IsSized bytes × (behind : List ℕ) × (wanted < 2 ^ 16) × (bytes ≡ word wanted ++ behind)
    × (found ≡ length behind) × (found ≢ wanted)
IsRefused bytes (Version v) =
    IsSized bytes × (behind : List ℕ) × (bytes ≡ with_count (v ∷ behind)) × (v ≢ version)
IsRefused bytes (Flags f) = IsSized bytes × (behind : List ℕ)
    × (bytes ≡ with_count (version ∷ f ∷ behind)) × (f ≢ plain_flags)
IsRefused bytes fault = HasBadMessage bytes fault
