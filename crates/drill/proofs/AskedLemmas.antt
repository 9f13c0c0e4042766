-- What the items of a panel ask, and what they send to the plant.
use Rattle.std.proofs.Common.{◌≡◌, ◌⊎◌, inl, inr, ℕ, zero, suc, ◌+◌, ◌<◌, ◌≤◌, true, false, if◌then◌else◌, List, [], ◌∷◌, ◌++◌, map, flat_map, length, refl, sym, ap, ◌∙◌, subst, arith}
use Rattle.std.specs.Prelude.{filter}
use Rattle.std.specs.List.{range_with_len, AllByRecursion}
use Rattle.std.proofs.lemmas.List.{append_assoc}
use Rattle.std.proofs.lemmas.List.Elements.{filter-append}
use Rattle.dle_framing.specs.declared.item.Item.{Item}
use Rattle.dle_framing.specs.declared.item.Item.TheVariants.{Good, Bad, Ack, Nak}
use Rattle.swp08_messages.specs.declared.message.Message.{Message}
use Rattle.swp08_messages.specs.declared.message.MessageKind.TheVariants.{Plant, Names, Report}
use Rattle.swp08_messages.specs.Spelled.{Spells}
use Rattle.swp08_messages.specs.Text.{text, InRange, kind_of}
use Rattle.swp08_messages.proofs.ReadingLemmas.{one_message}
use Rattle.swp08_messages.proofs.SpelledLemmas.{Spells-text}
use Rattle.plant_core.specs.declared.request.Request.{Request}
use Rattle.plant_core.specs.declared.request.Request.TheVariants.{Told, Poll, Leave, DisplayPoll}
use Rattle.panel_session.specs.Asked.{Asks, AllAsk, GoodAsks, sent_to_plant}
use Rattle.drill.specs.Drilled.{is_told, frame_tells, stream_tells}
use Rattle.drill.specs.Laws.{MessagesAskThePlant}
use Rattle.drill.specs.Messages.{message_at}
use Rattle.drill.specs.Stream.{is_bad, item_at, items_of}

-- What an item asks: the type is `panel_session`'s own, and is named here by a function that goes over it.
abbrev ElementOf : {A B : Type 0} → (List A → B) → Type 0
ElementOf {A} f = A

abbrev pub Asked : Type 0
Asked = ElementOf (sent_to_plant 0 0)

-- What the first item sends comes first.
pub one_first : (panel item : ℕ) (a : Asked) (others : List Asked) → sent_to_plant panel item (a ∷ others) ≡ sent_to_plant panel item (a ∷ []) ++ sent_to_plant panel (item + 1) others
one_first panel item a others = grind arith

one_told : (panel item : ℕ) (a : Asked) → filter is_told (sent_to_plant panel item (a ∷ [])) ≡ sent_to_plant panel item (a ∷ [])
one_told panel item a = grind arith

-- What a good frame sends: a message for the plant, or nothing, where it asks for names or for nothing.
good_sends : (panel item : ℕ) (carried : List ℕ) (a : Asked) → GoodAsks carried a
    → ((message : Message) × (sent_to_plant panel item (a ∷ []) ≡ Told panel item message ∷ []) × Spells carried message × (kind_of message ≡ Plant))
    ⊎ ((message : Message) × (sent_to_plant panel item (a ∷ []) ≡ []) × Spells carried message × (kind_of message ≡ Names))
    ⊎ ((sent_to_plant panel item (a ∷ []) ≡ []) × ((message : Message) → Spells carried message → kind_of message ≡ Report))
good_sends panel item carried a asks = grind arith

-- What items send to the plant, and others behind them.
pub sent_behind : (xs ys : List Asked) (panel item n : ℕ) → n ≡ item + length xs → sent_to_plant panel item (xs ++ ys) ≡ sent_to_plant panel item xs ++ sent_to_plant panel n ys
sent_behind [] ys panel item n is = ap (λ (n : ℕ). sent_to_plant panel n ys) (let same : item ≡ n = omega arith in same)
sent_behind (a ∷ xs) ys panel item n is =
    let first : List Request = sent_to_plant panel item (a ∷ []) in
    one_first panel item a (xs ++ ys)
    ∙ ap (λ (more : List Request). first ++ more) (sent_behind xs ys panel (item + 1) n (omega arith))
    ∙ sym (append_assoc first (sent_to_plant panel (item + 1) xs) (sent_to_plant panel n ys))
    ∙ ap (λ (front : List Request). front ++ sent_to_plant panel n ys) (sym (one_first panel item a xs))

-- All of it carries messages.
pub sent_told : (panel item : ℕ) (asked : List Asked) → filter is_told (sent_to_plant panel item asked) ≡ sent_to_plant panel item asked
sent_told panel item [] = refl
sent_told panel item (a ∷ asked) =
    let first : List Request = sent_to_plant panel item (a ∷ []) in
    let more : List Request = sent_to_plant panel (item + 1) asked in
    ap (filter is_told) (one_first panel item a asked)
    ∙ filter-append is_told first more
    ∙ ap (λ (front : List Request). front ++ filter is_told more) (one_told panel item a)
    ∙ ap (λ (later : List Request). first ++ later) (sent_told panel (item + 1) asked)
    ∙ sym (one_first panel item a asked)

-- A request of a panel's session, by its numbers: the number of an item and that of a turn are at most these.
abbrev pub IsWithin : ℕ → ℕ → ℕ → Request → Type 0
IsWithin panel items turns (Told asker item message) = (asker ≡ panel) × (item ≤ items) × InRange message
IsWithin panel items turns (Poll asker item turn) = (asker ≡ panel) × (item ≤ items) × (turn ≤ turns)
IsWithin panel items turns (Leave asker) = ⊥
IsWithin panel items turns (DisplayPoll screen refresh) = ⊥

abbrev AllWithin : ℕ → ℕ → ℕ → List Request → Type 0
AllWithin panel items turns requests = AllByRecursion (IsWithin panel items turns) requests

both_within : (panel items turns : ℕ) (one more : List Request) → AllWithin panel items turns one → AllWithin panel items turns more → AllWithin panel items turns (one ++ more)
both_within panel items turns [] more within later = later
both_within panel items turns (request ∷ one) more within later = (within.0, both_within panel items turns one more within.1 later)

one_within : (panel first items turns : ℕ) (item : Item (List ℕ)) (a : Asked) → Asks item a → first ≤ items → AllWithin panel items turns (sent_to_plant panel first (a ∷ []))
one_within panel first items turns (Good carried) a asks few =
    let Within : List Request → Type 0 = AllWithin panel items turns in
    elim (good_sends panel first carried a asks) [
      | inl sends ↦ subst Within (sym sends.1) ((refl, few, sends.2.in_range), tt)
      | inr (inl none) ↦ subst Within (sym none.1) tt
      | inr (inr none) ↦ subst Within (sym none.0) tt
    ]
one_within panel first items turns Bad a asks few = let Within : Asked → Type 0 = λ a. AllWithin panel items turns (sent_to_plant panel first (a ∷ [])) in subst Within (sym asks) tt
one_within panel first items turns Ack a asks few = let Within : Asked → Type 0 = λ a. AllWithin panel items turns (sent_to_plant panel first (a ∷ [])) in subst Within (sym asks) tt
one_within panel first items turns Nak a asks few = let Within : Asked → Type 0 = λ a. AllWithin panel items turns (sent_to_plant panel first (a ∷ [])) in subst Within (sym asks) tt

pub sent_within : (panel first items turns : ℕ) (its : List (Item (List ℕ))) (asked : List Asked) → AllAsk its asked → first + length asked ≤ items → AllByRecursion (IsWithin panel items turns) (sent_to_plant panel first asked)
sent_within panel first items turns [] [] ask within = tt
sent_within panel first items turns [] (a ∷ asked) ask within = absurd ask
sent_within panel first items turns (item ∷ its) [] ask within = absurd ask
sent_within panel first items turns (item ∷ its) (a ∷ asked) ask within =
    let Within : List Request → Type 0 = AllWithin panel items turns in
    subst Within (sym (one_first panel first a asked))
    (both_within panel items turns (sent_to_plant panel first (a ∷ [])) (sent_to_plant panel (first + 1) asked)
    (one_within panel first items turns item a ask.0 (omega arith))
    (sent_within panel (first + 1) items turns its asked ask.1 (omega arith)))

module _ (ask_plant : MessagesAskThePlant) where
  good_tells : (number panel at : ℕ) (a : Asked) → panel < 16 → GoodAsks (text (message_at number panel at)) a → sent_to_plant panel at (a ∷ []) ≡ Told panel at (message_at number panel at) ∷ []
  good_tells number panel at a within asks =
      let message : Message = message_at number panel at in
      let is = ask_plant number panel at within in
      let spelled : Spells (text message) message = Spells-text message is.0 in
      elim (good_sends panel at (text message) a asks) [
        | inl sends ↦ sends.1 ∙ ap (λ (message : Message). Told panel at message ∷ []) (one_message (text message) sends.0 message sends.2 spelled)
        | inr (inl names) ↦ absurd (
            let same : names.0 ≡ message = one_message (text message) names.0 message names.2 spelled in
            let kinds : Names ≡ Plant = sym names.3 ∙ ap kind_of same ∙ is.1 in cc
            )
        | inr (inr none) ↦ absurd (let kinds : Report ≡ Plant = sym (none.1 message spelled) ∙ is.1 in cc)
      ]

  one_tells : (number panel at : ℕ) (a : Asked) → panel < 16 → Asks (item_at number panel at) a → sent_to_plant panel at (a ∷ []) ≡ frame_tells number panel at
  one_tells number panel at a within =
      let message : Message = message_at number panel at in
      elim (is_bad at) as (λ b. Asks (if b then Bad else Good (text message)) a → sent_to_plant panel at (a ∷ []) ≡ (if b then [] else Told panel at message ∷ [])) [
        | true ↦ λ asks. ap (λ (a : Asked). sent_to_plant panel at (a ∷ [])) asks
        | false ↦ λ asks. good_tells number panel at a within asks
      ]

  all_tell : (number panel first count : ℕ) (asked : List Asked) → panel < 16 → AllAsk (map (item_at number panel) (range_with_len first count)) asked → sent_to_plant panel first asked ≡ flat_map (frame_tells number panel) (range_with_len first count)
  all_tell number panel first zero [] within ask = refl
  all_tell number panel first zero (a ∷ asked) within ask = absurd ask
  all_tell number panel first (suc count) [] within ask = absurd ask
  all_tell number panel first (suc count) (a ∷ asked) within ask =
      one_first panel first a asked
      ∙ ap (λ (front : List Request). front ++ sent_to_plant panel (first + 1) asked) (one_tells number panel first a within ask.0)
      ∙ ap (λ (more : List Request). frame_tells number panel first ++ more) (all_tell number panel (first + 1) count asked within ask.1)

  -- The items of a panel send the plant the messages of its good frames.
  pub items_tell : (number panel count : ℕ) (asked : List Asked) → panel < 16 → AllAsk (items_of number panel count) asked → sent_to_plant panel 0 asked ≡ stream_tells number panel count
  items_tell number panel count asked within ask = all_tell number panel 0 count asked within ask
