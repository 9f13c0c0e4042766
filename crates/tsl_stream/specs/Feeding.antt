-- What feeding a piece of a stream does.
use Rattle.std.specs.Prelude.{ℕ, List, Option}
use Rattle.doubled_bytes.specs.Feeding.{Feeds}
use Rattle.tsl_stream.specs.declared.item.StreamItem.{StreamItem}
use Rattle.tsl_stream.specs.declared.item.StreamItem.TheVariants as stream
use Rattle.tsl_stream.specs.Items.{PacketItem, Packet, Bad, stream_items}

-- an item whose packet is borrowed, with the bytes that it is [profile]
abbrev pub shown_packet : StreamItem → PacketItem
shown_packet (stream.Packet bytes) = Packet bytes.now
shown_packet (stream.Bad fault) = Bad fault

-- Of a piece that comes behind `text`, so many bytes were used and this item was answered, the first that ends in it.
-- [profile]
abbrev pub FeedsStream : List ℕ → List ℕ → ℕ → Option PacketItem → Type 0
FeedsStream text piece used item = Feeds stream_items text piece used item
