-- The numbers of a packet in the TSL UMD Protocol V5.0, and the limits that this profile sets.
use Rattle.std.specs.Prelude.{ℕ}

-- VER of the protocol's version 5.0 [TSL UMD V5.0]
abbrev pub version : ℕ
version = 0

-- FLAGS of a packet of display messages with texts in ASCII [TSL UMD V5.0]
abbrev pub plain_flags : ℕ
plain_flags = 0

-- the bytes of PBC, VER, FLAGS and SCREEN [TSL UMD V5.0]
abbrev pub packet_head : ℕ
packet_head = 6

-- the bytes of INDEX, CONTROL and LENGTH [TSL UMD V5.0]
abbrev pub message_head : ℕ
message_head = 6

-- the most that two bits say [TSL UMD V5.0]
abbrev pub max_brightness : ℕ
max_brightness = 3

-- printable ASCII is from the space to the tilde [profile]
abbrev pub first_printable : ℕ
first_printable = 32

abbrev pub last_printable : ℕ
last_printable = 126

-- the most bytes of a whole packet in this profile, PBC among them [profile]
abbrev pub max_packet : ℕ
max_packet = 2048
