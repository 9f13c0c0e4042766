-- Items that own their DATA.
use Rattle.std.specs.Prelude.{ℕ, List, Vec}
use Rattle.dle_framing.specs.declared.item.Item.{Item}
use Rattle.dle_framing.specs.declared.item.Item.TheVariants.{Good, Bad, Ack, Nak}

-- an item that owns its DATA, with the bytes that they are [profile]
abbrev pub owned : {Z : Type 0} → Item (Vec ℕ Z) → Item (List ℕ)
owned (Good carried) = Good carried.items
owned Bad = Bad
owned Ack = Ack
owned Nak = Nak
