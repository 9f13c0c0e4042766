-- What the sink of a port was given.
use Rattle.std.specs.Prelude.{◌≡◌, ◌⊎◌, ℕ, Bool, true, false, List, [], ◌∷◌, ◌++◌, map, Option, IfSome}
use Rattle.tsl_stream.specs.declared.port.StreamPort.{StreamPort}
use Rattle.tsl_stream.specs.Numbers.{tsl_dle, tsl_stx}
use Rattle.tsl_stream.specs.Stream.{stuffed}
use Rattle.tsl_stream.specs.Items.{Packet, stream_items, stream_rest}
use Rattle.tsl_stream.specs.Kept.{IsOpen}
use Rattle.tsl_stream.specs.Laws.{stream_texts}

-- the sink of a port [profile]
abbrev pub sink_of : {K : Type 0} → StreamPort K → K
sink_of port = port.sink

-- What a port leaves as the rest of a text: nothing or a packet that isn't whole, or such a packet or nothing with a DLE
-- behind it, which is half of a start or of a pair. [profile]
abbrev pub LeavesRest : Bool → List ℕ → Type 0
LeavesRest false left =
    (left ≡ []) ⊎ ((front : List ℕ) × IsOpen front × (left ≡ tsl_dle ∷ tsl_stx ∷ stuffed front))
LeavesRest true left = (left ≡ tsl_dle ∷ []) ⊎ ((front : List ℕ) × IsOpen front
    × (left ≡ tsl_dle ∷ tsl_stx ∷ (stuffed front ++ tsl_dle ∷ [])))

-- A text has just these packets as its items, none of them bad, and ends with half of a pair or not. [profile]
pub record HasPackets (text : List ℕ) (packets : List (List ℕ)) (half : Bool) : Type 0 where
  pub all_items : stream_items text ≡ map Packet packets
  pub leaves : LeavesRest half (stream_rest text)

-- A text is that of these packets, byte by byte, so it doesn't end with half of a pair. [profile]
pub record IsJust (text : List ℕ) (packets : List (List ℕ)) (half : Bool) : Type 0 where
  pub text_is : text ≡ stream_texts packets
  pub not_half : half ≡ false

-- Where the sink of a port shows what it was given, that has just these packets, and the port knows how it ends. As long as
-- no write of the sink has failed, it is their text byte by byte. [profile]
abbrev pub HasSent : {K : Type 0} → (K → Option (List ℕ)) → (K → ℕ) → StreamPort K
    → List (List ℕ) → Type 0
HasSent written faults port packets =
    IfSome (written port.sink) (λ text. HasPackets text packets port.half
    × (faults port.sink ≡ 0 → IsJust text packets port.half))
