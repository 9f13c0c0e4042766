-- What the items of a piece are answered with.
use Rattle.std.specs.Prelude.{◌≡◌, ◌⊎◌, ℕ, List, [], ◌∷◌, ◌++◌}
use Rattle.std.specs.List.{AllByRecursion, flat_map}
use Rattle.dle_framing.specs.Numbers.{ack, nak}
use Rattle.dle_framing.specs.Frame.{frame}
use Rattle.dle_framing.specs.declared.item.Item.{Item}
use Rattle.dle_framing.specs.declared.item.Item.TheVariants.{Good, Bad, Ack, Nak}
use Rattle.swp08_messages.specs.declared.message.Message.{Message}
use Rattle.swp08_messages.specs.Text.{text}
use Rattle.swp08_messages.specs.Dump.{Page, page_text}
use Rattle.plant_names.specs.Pages as pages
use Rattle.panel_session.specs.Turns.{EndIn}
use Rattle.record_replay.specs.Laws.{Action, Turned, Left, Polled, pieces_of}

-- DATA are those of a page of names. [profile]
abbrev pub IsPageOfNames : List ℕ → Type 0
IsPageOfNames bytes =
    (command matrix level size first : ℕ) × (names : List (List ℕ))
    × (bytes ≡ pages.names_text command matrix level size first names)

-- A frame that tells a panel something: that of a message, of a page of a dump, or of a page of names. [profile]
abbrev pub IsTelling : List ℕ → Type 0
IsTelling bytes =
    ((message : Message) × (bytes ≡ frame (text message)))
    ⊎ ((page : Page) × (bytes ≡ frame (page_text page)))
    ⊎ ((carried : List ℕ) × IsPageOfNames carried × (bytes ≡ frame carried))

-- frames one after the other [profile]
abbrev pub in_a_row : List (List ℕ) → List ℕ
in_a_row frames = flat_map (λ bytes. bytes) frames

-- What an item is answered with: a bad frame with NAK and nothing else; a good one with ACK, and then frames that tell
-- something; an ACK with nothing; a NAK with nothing, or with one such frame. [profile]
abbrev pub IsAnswered : Item (List ℕ) → List ℕ → Type 0
IsAnswered (Good carried) bytes =
    (frames : List (List ℕ)) × AllByRecursion IsTelling frames × (bytes ≡ ack ++ in_a_row frames)
IsAnswered Bad bytes = bytes ≡ nak
IsAnswered Ack bytes = bytes ≡ []
IsAnswered Nak bytes = (bytes ≡ []) ⊎ IsTelling bytes

-- Items are answered so, one after the other. [profile]
abbrev pub AreAnswered : List (Item (List ℕ)) → List (List ℕ) → Type 0
AreAnswered [] [] = Unit {0}
AreAnswered (item ∷ items) (bytes ∷ others) = IsAnswered item bytes × AreAnswered items others
AreAnswered [] (bytes ∷ others) = ⊥
AreAnswered (item ∷ items) [] = ⊥

-- The bytes that are sent in a turn answer the items that end in its piece, in order, and then tell notices. [profile]
pub record AnswersItems (read piece sent : List ℕ) : Type 0 where
  pub ended : List (Item (List ℕ))
  pub end_in : EndIn read piece ended
  pub answers : List (List ℕ)
  pub are : AreAnswered ended answers
  pub notices : List (List ℕ)
  pub tell : AllByRecursion IsTelling notices
  pub sent_is : sent ≡ in_a_row answers ++ in_a_row notices

-- What is sent in a turn answers the items that end in its piece, behind the pieces that the panel sent in the actions before: a
-- frame by NAK exactly where it is bad.
abbrev pub AnswersItsPiece : List Action → Action → Type 0
AnswersItsPiece before (Turned panel piece entries sent) =
    AnswersItems (flat_map (λ piece. piece) (pieces_of panel before)) piece sent
AnswersItsPiece before (Left panel) = Unit {0}
AnswersItsPiece before (Polled screen refresh answers) = Unit {0}
