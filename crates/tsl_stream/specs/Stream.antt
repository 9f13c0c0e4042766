-- The one text of a packet on a stream of bytes, by the TSL UMD Protocol V5.0 for TCP/IP.
use Rattle.std.specs.Prelude.{ℕ, List, [], ◌∷◌, ◌++◌}
use Rattle.doubled_bytes.specs.Doubled.{doubled}
use Rattle.tsl_stream.specs.Numbers.{tsl_dle, tsl_stx}

-- each DLE twice, so that none of them can be read as a start [TSL UMD V5.0]
abbrev pub stuffed : List ℕ → List ℕ
stuffed bytes = doubled tsl_dle bytes

-- DLE STX, and the packet with each DLE of it twice [TSL UMD V5.0]
abbrev pub stream_text : List ℕ → List ℕ
stream_text packet = (tsl_dle ∷ tsl_stx ∷ []) ++ stuffed packet
