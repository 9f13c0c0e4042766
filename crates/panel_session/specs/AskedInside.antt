-- What a piece has for a session.
use Rattle.std.specs.Prelude.{ℕ, List, Option, None, Some}
use Rattle.dle_framing.specs.declared.item.Item.{Item}
use Rattle.dle_framing.specs.Feeding.{Feeds}
use Rattle.panel_session.specs.declared.session.asked.Asked.{Asked}
use Rattle.panel_session.specs.declared.session.asked.Asked.TheVariants.{Named}
use Rattle.swp08_messages.specs.Text.{InRange}
use Rattle.panel_session.specs.Asked.{Asks}

-- an item asks so, where there is one
abbrev pub MayAsk : Option (Item (List ℕ)) → Option Asked → Type 0
MayAsk None None = Unit {0}
MayAsk (Some item) (Some asked) = Asks item asked
MayAsk None (Some asked) = ⊥
MayAsk (Some item) None = ⊥

-- A message that asks for names is in its ranges, so that its pages can be written.
abbrev pub NamesInRange : Option Asked → Type 0
NamesInRange (Some (Named message)) = InRange message
NamesInRange asked = Unit {0}

-- Of a piece behind a text so many bytes were used, up to the end of the first item, which asks so.
pub record FoundAsks (text piece : List ℕ) (used : ℕ) (found : Option Asked) : Type 0 where
  pub item : Option (Item (List ℕ))
  pub feeds : Feeds text piece used item
  pub asks : MayAsk item found
