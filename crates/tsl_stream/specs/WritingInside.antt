-- What a port writes for a packet, and how what it wrote ends.
use Rattle.std.specs.Prelude.{ℕ, ◌==◌, ◌&&◌, if◌then◌else◌, Bool, not, List, [], ◌∷◌, ◌++◌}
use Rattle.tsl_stream.specs.Numbers.{tsl_dle}
use Rattle.tsl_stream.specs.Stream.{stream_text}

-- What is written for a packet: where half of a pair was left, a 00 first, so that its DLE begins nothing.
abbrev pub sent_text : Bool → List ℕ → List ℕ
sent_text half packet = (if half then 0 ∷ [] else []) ++ stream_text packet

-- whether bytes end with half of a pair, where half of one was left before them or not
abbrev pub half_after : Bool → List ℕ → Bool
half_after half [] = half
half_after half (a ∷ bytes) = half_after (a == tsl_dle && not half) bytes
