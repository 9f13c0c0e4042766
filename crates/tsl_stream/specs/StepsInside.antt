-- What one byte more does to what a reader keeps.
use Rattle.std.specs.Prelude.{◌≡◌, ℕ, ◌<◌, ◌≤◌, List, [], ◌∷◌, ◌++◌, length, Option, Some, None, Result, Ok, Err}
use Rattle.std.specs.Option.{option_map, option_to_list}
use Rattle.tsl_umd5.specs.declared.fault.TslFault.{TslFault}
use Rattle.tsl_umd5.specs.Layout.{max_packet}
use Rattle.doubled_bytes.specs.declared.state.State.{State}
use Rattle.doubled_bytes.specs.declared.state.State.TheVariants.{Outside, Inside}
use Rattle.tsl_stream.specs.Numbers.{tsl_dle, tsl_stx}
use Rattle.tsl_stream.specs.Stream.{stuffed}
use Rattle.doubled_bytes.specs.Reading.{with_item}
use Rattle.tsl_stream.specs.Items.{PacketItem, Packet, Bad, packet_size, stream_items, stream_reading, stream_rest}
use Rattle.tsl_stream.specs.Kept.{IsOpen, KeepsPacket}

-- what the front of a packet has come to: it is the packet, or bad
abbrev pub found_in : List ℕ → Result (Unit {0}) TslFault → PacketItem
found_in front (Ok _) = Packet front
found_in front (Err fault) = Bad fault

-- No item ended before the last byte of this front of a packet: it has no more bytes than the packet, and where that is
-- too long, PBC alone.
pub record IsReached (front : List ℕ) : Type 0 where
  pub within : length front ≤ packet_size front
  pub counted : max_packet < packet_size front → length front ≡ 2

-- This item ends with the last byte of the front of a packet, whatever comes behind.
abbrev pub EndsAs : List ℕ → PacketItem → Type 0
EndsAs front item = (more : List ℕ)
    → stream_reading (tsl_dle ∷ tsl_stx ∷ (stuffed front ++ more))
    ≡ with_item item (stream_reading more)

-- One byte more takes a state and a front to others, and ends this item or none.
unfoldable pub Steps : State → List ℕ → ℕ → Option (Result (Unit {0}) TslFault) → State
    → List ℕ → Type 0
Steps state front byte item next_state next_front =
    (kept : List ℕ) → KeepsPacket state front kept
    → (stream_items (kept ++ byte ∷ []) ≡ option_to_list (option_map (found_in next_front) item))
    × KeepsPacket next_state next_front (stream_rest (kept ++ byte ∷ []))

-- What the front of a packet has come to, and the state with it: more bytes are wanted, or an item ends.
abbrev pub EndsSo : List ℕ → Option (Result (Unit {0}) TslFault) → State → Type 0
EndsSo front None state = IsOpen front × (state ≡ Inside)
EndsSo front (Some item) state = EndsAs front (found_in front item) × (state ≡ Outside)
