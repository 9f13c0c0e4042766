-- The laws of frames and items, for proofs of other crates too.
use Rattle.std.proofs.Common.{◌≡◌, ℕ, suc, List, [], ◌∷◌, ◌++◌, map, All, refl, ap, ◌∙◌, arith}
use mathlib.Core.List.{IsPrefix}
use Rattle.std.proofs.lemmas.Bool.{cond-true}
use Rattle.doubled_bytes.proofs.Readings.{reading_only as one_reading, reads_on_by, items_stay}
use Rattle.dle_framing.specs.declared.item.Item.{Item}
use Rattle.dle_framing.specs.declared.item.Item.TheVariants.{Good, Ack, Nak}
use Rattle.dle_framing.specs.Numbers.{dle, etx, ack, nak}
use Rattle.dle_framing.specs.Frame.{IsData, body, enclosed, frame}
use Rattle.dle_framing.specs.Items.{TextReading, by_start, with_item, item_of, reading, items, rest}
use Rattle.dle_framing.specs.Laws.{ReadsByStart, ReadsOn, IsReadAs, frames}
use Rattle.dle_framing.proofs.FrameLemmas.{good-body, data-body}
use Rattle.dle_framing.proofs.Readings.{by_start-same, reading-by_start, reading-frame, reading-append}

pub reading_only : (reads : List ℕ → TextReading) → ReadsByStart reads → (text : List ℕ) → reads text ≡ reading text
reading_only = one_reading by_start by_start-same reading reading-by_start

pub reads_on_lem : (text more : List ℕ) → ReadsOn text more
reads_on_lem text more = reads_on_by reading text more (reading-append text more)

pub items_front : (text longer : List ℕ) → IsPrefix text longer → IsPrefix (items text) (items longer)
items_front = items_stay reading reads_on_lem

-- the reading of an enclosed body
pub reading-enclosed : (text : List ℕ) → reading (enclosed text) ≡ with_item (item_of text) (reading [])
reading-enclosed text = reading-frame text (dle ∷ etx ∷ []) refl

-- the item of the body of DATA
pub item_of-body : (carried : List ℕ) → IsData carried → item_of (body carried) ≡ Good carried
item_of-body carried is_data = cond-true _ _ _ (good-body carried is_data) ∙ ap Good (data-body carried)

-- a text by its reading
read_as : (text : List ℕ) (given : List (Item (List ℕ))) → reading text ≡ record { items = given; rest = [] } → IsReadAs text given
read_as text given reads = record {
  all_items = ap (λ (reading : TextReading). reading.items) reads;
  no_rest = ap (λ (reading : TextReading). reading.rest) reads;
}

pub reads_one : (carried : List ℕ) → IsData carried → IsReadAs (frame carried) (Good carried ∷ [])
reads_one carried is_data =
    read_as (frame carried) (Good carried ∷ [])
    (reading-enclosed (body carried) ∙ ap (with_item (item_of (body carried))) (reading-by_start []) ∙ ap (λ (item : Item (List ℕ)). record { items = item ∷ []; rest = [] }) (item_of-body carried is_data))

-- a text that is read with no rest, and another behind it
reads_both : (text more : List ℕ) (given next : List (Item (List ℕ))) → IsReadAs text given → IsReadAs more next → IsReadAs (text ++ more) (given ++ next)
reads_both text more given next first second =
    let on = reads_on_lem text more in
    let joins : rest text ++ more ≡ more = ap (λ (rest : List ℕ). rest ++ more) first.no_rest in
    record {
      all_items = on.items_go_on ∙ ap (λ (given : List (Item (List ℕ))). given ++ items (rest text ++ more)) first.all_items ∙ ap (λ (next : List (Item (List ℕ))). given ++ next) (ap items joins ∙ second.all_items);
      no_rest = on.rest_goes_on ∙ ap rest joins ∙ second.no_rest;
    }

pub reads_in_a_row : (carried : List (List ℕ)) → All IsData carried → IsReadAs (frames carried) (map Good carried)
reads_in_a_row [] are_data = read_as [] [] (reading-by_start [])
reads_in_a_row (first ∷ carried) are_data =
    reads_both (frame first) (frames carried) (Good first ∷ []) (map Good carried) (reads_one first (are_data 0 first (omega arith))) (reads_in_a_row carried (λ k d within. are_data (suc k) d (omega arith)))

pub reads_ack : IsReadAs ack (Ack ∷ [])
reads_ack = read_as ack (Ack ∷ []) (reading-by_start ack ∙ ap (with_item Ack) (reading-by_start []))

pub reads_nak : IsReadAs nak (Nak ∷ [])
reads_nak = read_as nak (Nak ∷ []) (reading-by_start nak ∙ ap (with_item Nak) (reading-by_start []))
