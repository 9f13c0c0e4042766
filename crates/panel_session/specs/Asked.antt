-- What the items of a panel's stream ask of its session.
use Rattle.std.specs.Prelude.{◌≡◌, ℕ, ◌+◌, List, [], ◌∷◌}
use Rattle.dle_framing.specs.declared.item.Item.{Item}
use Rattle.dle_framing.specs.declared.item.Item.TheVariants.{Good, Bad, Ack, Nak}
use Rattle.swp08_messages.specs.declared.message.Message.{Message}
use Rattle.swp08_messages.specs.declared.message.MessageKind.TheVariants.{Plant, Names, Report}
use Rattle.swp08_messages.specs.Text.{kind_of}
use Rattle.swp08_messages.specs.Spelled.{Spells}
use Rattle.panel_session.specs.declared.session.asked.Asked.{Asked}
use Rattle.panel_session.specs.declared.session.asked.Asked.TheVariants.{Nothing, Repeat, Refused, Noted, Named, Sent}
use Rattle.plant_core.specs.declared.request.Request.{Request}
use Rattle.plant_core.specs.declared.request.Request.TheVariants.{Told}

-- A good frame sends the plant the message that its DATA spell, where that asks something of the plant; one that asks for
-- names is answered by their pages; any other is noted. [profile]
abbrev pub GoodAsks : List ℕ → Asked → Type 0
GoodAsks carried (Sent message) = Spells carried message × (kind_of message ≡ Plant)
GoodAsks carried (Named message) = Spells carried message × (kind_of message ≡ Names)
GoodAsks carried Noted = (message : Message) → Spells carried message → kind_of message ≡ Report
GoodAsks carried Nothing = ⊥
GoodAsks carried Repeat = ⊥
GoodAsks carried Refused = ⊥

-- An item asks so. [profile]
abbrev pub Asks : Item (List ℕ) → Asked → Type 0
Asks (Good carried) asked = GoodAsks carried asked
Asks Bad asked = asked ≡ Refused
Asks Ack asked = asked ≡ Nothing
Asks Nak asked = asked ≡ Repeat

-- Items ask so, each in its place. [profile]
abbrev pub AllAsk : List (Item (List ℕ)) → List Asked → Type 0
AllAsk [] [] = Unit {0}
AllAsk (item ∷ items) (asked ∷ others) = Asks item asked × AllAsk items others
AllAsk [] (asked ∷ others) = ⊥
AllAsk (item ∷ items) [] = ⊥

-- What a panel sends to the plant, where the first item has this number. [profile]
abbrev pub sent_to_plant : ℕ → ℕ → List Asked → List Request
sent_to_plant panel item [] = []
sent_to_plant panel item (Sent message ∷ others) =
    Told panel item message ∷ sent_to_plant panel (item + 1) others
sent_to_plant panel item (Nothing ∷ others) = sent_to_plant panel (item + 1) others
sent_to_plant panel item (Repeat ∷ others) = sent_to_plant panel (item + 1) others
sent_to_plant panel item (Refused ∷ others) = sent_to_plant panel (item + 1) others
sent_to_plant panel item (Noted ∷ others) = sent_to_plant panel (item + 1) others
sent_to_plant panel item (Named message ∷ others) = sent_to_plant panel (item + 1) others
