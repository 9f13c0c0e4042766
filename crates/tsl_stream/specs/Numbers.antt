-- The control bytes of packets on a stream, each named here and nowhere else.
use Rattle.std.specs.Prelude.{ℕ}

-- DLE stands before STX, and a byte of its value in a packet is sent twice. It isn't the DLE of SW-P-08. [TSL UMD V5.0]
abbrev pub tsl_dle : ℕ
tsl_dle = 0xFE

-- behind a DLE: a packet starts [TSL UMD V5.0]
abbrev pub tsl_stx : ℕ
tsl_stx = 0x02
