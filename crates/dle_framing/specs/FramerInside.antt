-- What bytes of a piece do to a framer and to the items given so far.
use Rattle.std.specs.Prelude.{◌≡◌, ℕ, List, ◌++◌}
use Rattle.dle_framing.specs.declared.framer.Framer.{Framer}
use Rattle.dle_framing.specs.declared.item.Item.{Item}
use Rattle.dle_framing.specs.Framer.{StandsFor}
use Rattle.dle_framing.specs.Items.{items}

-- A framer goes on over these bytes, and no item ends in them.
abbrev pub PassesOver : List ℕ → Framer → Framer → Type 0
PassesOver bytes before after = (text : List ℕ) → StandsFor before text
    → (items (text ++ bytes) ≡ items text) × StandsFor after (text ++ bytes)

-- A framer goes on over these bytes, and these are the items that they add to each text that it stood for.
abbrev pub Adds : List ℕ → Framer → Framer → List (Item (List ℕ)) → Type 0
Adds bytes before after more = (text : List ℕ) → StandsFor before text
    → (items (text ++ bytes) ≡ items text ++ more) × StandsFor after (text ++ bytes)

-- The same, where they were appended to the items given so far.
abbrev pub AddsOnto : List ℕ → Framer → List (Item (List ℕ)) → Framer
    → List (Item (List ℕ)) → Type 0
AddsOnto bytes before given after given_then =
    (more : List (Item (List ℕ))) × (given_then ≡ given ++ more) × Adds bytes before after more
