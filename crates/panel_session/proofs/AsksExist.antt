-- Each item of a stream asks something.
use Rattle.std.proofs.Common.{◌≡◌, ℕ, List, inl, inr, refl, ap, ◌∙◌}
use Rattle.dle_framing.specs.declared.item.Item.{Item}
use Rattle.dle_framing.specs.declared.item.Item.TheVariants.{Good, Bad, Ack, Nak}
use Rattle.swp08_messages.specs.declared.message.MessageKind.{MessageKind}
use Rattle.swp08_messages.specs.declared.message.MessageKind.TheVariants.{Plant, Names, Report}
use Rattle.swp08_messages.specs.declared.message.Message.{Message}
use Rattle.swp08_messages.specs.Spelled.{Spells}
use Rattle.swp08_messages.specs.Text.{kind_of}
use Rattle.swp08_messages.proofs.ReadingLemmas.{one_message}
use Rattle.swp08_messages.proofs.SpellsLemmas.{spells}
use Rattle.panel_session.specs.declared.session.asked.Asked.{Asked}
use Rattle.panel_session.specs.declared.session.asked.Asked.TheVariants.{Nothing, Repeat, Refused, Noted, Named, Sent}
use Rattle.panel_session.specs.Asked.{GoodAsks, Asks}

-- What DATA asks that spells a message, by its kind.
by_kind : (carried : List ℕ) (message : Message) → Spells carried message → (kind : MessageKind) → kind_of message ≡ kind → (asked : Asked) × GoodAsks carried asked
by_kind carried message spelled Plant is = (Sent message, (spelled, is))
by_kind carried message spelled Names is = (Named message, (spelled, is))
by_kind carried message spelled Report is = (
  Noted,
  (λ other spelled_too. ap kind_of (one_message carried other message spelled_too spelled) ∙ is),
)

-- DATA asks something.
good_asks : (carried : List ℕ) → (asked : Asked) × GoodAsks carried asked
good_asks carried = elim (spells carried) [
  | (inl so) ↦ by_kind carried so.0 so.1 (kind_of so.0) refl
  | (inr none) ↦ (Noted, (λ message spelled. absurd (none message spelled)))
]

-- An item asks something.
pub item_asks : (item : Item (List ℕ)) → (asked : Asked) × Asks item asked
item_asks (Good carried) = good_asks carried
item_asks Bad = (Refused, refl)
item_asks Ack = (Nothing, refl)
item_asks Nak = (Repeat, refl)
