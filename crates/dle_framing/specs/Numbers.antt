-- The numbers of frames, each named here and nowhere else.
use Rattle.std.specs.Prelude.{ℕ, List, [], ◌∷◌}

-- The control bytes of SW-P-08. DLE stands before each of the others, and a byte of its value in a frame is sent twice.
-- Behind it STX starts a frame and ETX ends one. [SW-P-08]
abbrev pub dle : ℕ
dle = 0x10

abbrev pub stx : ℕ
stx = 0x02

abbrev pub etx : ℕ
etx = 0x03

abbrev pub ack_byte : ℕ
ack_byte = 0x06

abbrev pub nak_byte : ℕ
nak_byte = 0x15

-- DLE ACK, outside a frame: the last frame was good. [SW-P-08]
abbrev pub ack : List ℕ
ack = dle ∷ ack_byte ∷ []

-- DLE NAK, outside a frame: the last frame was bad. [SW-P-08]
abbrev pub nak : List ℕ
nak = dle ∷ nak_byte ∷ []

-- the most bytes of DATA in a frame, which is this project's profile [profile]
abbrev pub most_data : ℕ
most_data = 255

-- The fewest and the most bytes of a good frame's body: DATA, their length and the check byte. [profile]
abbrev pub least_body : ℕ
least_body = 3

abbrev pub most_body : ℕ
most_body = 257

-- how many bytes of a body tell a good one from a longer one [profile]
abbrev pub most_kept : ℕ
most_kept = 258

-- the most bytes of a frame [profile]
abbrev pub most_frame : ℕ
most_frame = 516
