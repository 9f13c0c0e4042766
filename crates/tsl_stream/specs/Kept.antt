-- What a reader keeps of the rest of a text.
use Rattle.std.specs.Prelude.{◌≡◌, ◌<◌, ◌≤◌, ℕ, Bool, true, false, List, [], ◌∷◌, ◌++◌, length}
use Rattle.tsl_umd5.specs.Layout.{max_packet}
use Rattle.tsl_stream.specs.Numbers.{tsl_dle, tsl_stx}
use Rattle.tsl_stream.specs.Stream.{stuffed}
use Rattle.tsl_stream.specs.Items.{packet_size}
use Rattle.doubled_bytes.specs.declared.state.State.{State}
use Rattle.doubled_bytes.specs.declared.state.State.TheVariants.{Outside, OutsideDle, Inside, InsideDle}

-- A packet that begins so has more bytes, and isn't too long as far as is known. [profile]
pub record IsOpen (front : List ℕ) : Type 0 where
  pub more : length front < packet_size front
  pub fits : packet_size front ≤ max_packet

-- whether a packet has started [profile]
abbrev pub is_inside : State → Bool
is_inside Outside = false
is_inside OutsideDle = false
is_inside Inside = true
is_inside InsideDle = true

-- A state and the front of a packet keep a rest: nothing, a DLE alone, or a packet that has started and isn't whole,
-- maybe with a DLE at its end. [profile]
abbrev pub KeepsPacket : State → List ℕ → List ℕ → Type 0
KeepsPacket Outside front kept = kept ≡ []
KeepsPacket OutsideDle front kept = kept ≡ tsl_dle ∷ []
KeepsPacket Inside front kept = IsOpen front × (kept ≡ tsl_dle ∷ tsl_stx ∷ stuffed front)
KeepsPacket InsideDle front kept =
    IsOpen front × (kept ≡ tsl_dle ∷ tsl_stx ∷ (stuffed front ++ tsl_dle ∷ []))
