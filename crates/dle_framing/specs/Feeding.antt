-- What feeding a piece of a stream does.
use Rattle.std.specs.Prelude.{ℕ, List, Option}
use Rattle.std.specs.Borrow.{Bor}
use Rattle.std.specs.List.{flat_map}
use Rattle.doubled_bytes.specs.Feeding
use Rattle.dle_framing.specs.declared.item.Item.{Item}
use Rattle.dle_framing.specs.declared.item.Item.TheVariants.{Good, Bad, Ack, Nak}
use Rattle.dle_framing.specs.Items.{items}

-- an item whose DATA are borrowed, with the bytes that they are [profile]
abbrev pub shown : Item (Bor (List ℕ)) → Item (List ℕ)
shown (Good carried) = Good carried.now
shown Bad = Bad
shown Ack = Ack
shown Nak = Nak

-- Of a piece that comes behind `text`, so many bytes were used and this item was answered, the first that ends in it.
-- [profile]
abbrev pub Feeds : List ℕ → List ℕ → ℕ → Option (Item (List ℕ)) → Type 0
Feeds text piece used item = Feeding.Feeds items text piece used item

-- pieces of a text, joined [profile]
abbrev pub joined : List (Bor (List ℕ)) → List ℕ
joined pieces = flat_map (λ piece. piece.now) pieces
