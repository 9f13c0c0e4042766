-- One way of the line: what is put on it, and what is taken from it.
use Rattle.std.proofs.Common.{◌≡◌, ◌≢◌, ℕ, ◌+◌, ◌<◌, ◌≤◌, List, [], ◌∷◌, ◌++◌, length, take, drop, Option, Some, None, refl, sym, ap, subst, ◌∙◌, arith, append-nil}
use Rattle.std.specs.Option.{option_to_list}
use Rattle.std.proofs.lemmas.List.{take-append-drop}
use Rattle.std.proofs.Math.Seq.{take-length}
use Rattle.std.proofs.lemmas.List.Elements.{All-head}
use Rattle.swp08_messages.specs.declared.message.Message.{Message}
use Rattle.swp08_messages.specs.declared.message.Message.TheVariants.{Interrogate, Connect}
use Rattle.swp08_messages.specs.Text.{InRange, text}
use Rattle.dle_framing.specs.declared.item.Item.{Item}
use Rattle.dle_framing.specs.declared.item.Item.TheVariants.{Good}
use Rattle.dle_framing.specs.Frame.{frame}
use Rattle.dle_framing.specs.Items.{TextReading, items, rest}
use Rattle.dle_framing.specs.Feeding.{Feeds}
use Rattle.dle_framing.specs.Framer.{StandsFor}
use Rattle.dle_framing.proofs.Readings.{reading-by_start}
use Rattle.dle_framing.proofs.LawLemmas.{reads_on_lem, reads_one}
use Rattle.command_drive.specs.declared.way.Way.{Way}
use Rattle.command_drive.specs.DriveInside.{frames_of, Carries}

text_most : (message : Message) → length (text message) ≤ 8
text_most (Interrogate at) = omega arith
text_most (Connect at source) = omega arith
text_most message = omega arith

-- ---- what is taken

-- bytes that are none are of no message
pub none_carried : (messages : List Message) → frames_of messages ≡ [] → messages ≡ []
none_carried [] e = refl
none_carried (message ∷ messages) e = cc

pub none_on : (way : Way) (every count : ℕ) (messages : List Message) → Carries way every count messages → way.bytes.items ≡ [] → messages ≡ []
none_on way every count messages is empty = none_carried messages (sym is.bytes ∙ empty)

-- so it is where there are no bytes
pub no_bytes : (bytes : List ℕ) → length bytes ≡ 0 → bytes ≡ []
no_bytes [] e = refl
no_bytes (byte ∷ bytes) e = absurd (omega (arith, e))

no_items : items [] ≡ []
no_items = ap (λ (r : TextReading). r.items) (reading-by_start [])

-- The first item of a text that is read as one is this one.
one_item : (piece : List ℕ) (used : ℕ) (found : Option (Item (List ℕ))) (item : Item (List ℕ)) → Feeds [] piece used found → items piece ≡ item ∷ [] → found ≡ Some item
one_item piece used None item feeds reads =
    let whole : take used piece ≡ piece = ap (λ n. take n piece) (feeds.uses_all refl) ∙ take-length piece in
    let none : items piece ≡ [] = ap items (sym whole) ∙ feeds.adds ∙ append-nil (items []) ∙ no_items in
    let wrong : [] ≡ item ∷ [] = sym none ∙ reads in
    absurd cc
one_item piece used (Some other) item feeds reads =
    let front : items (take used piece) ≡ other ∷ [] = feeds.adds ∙ ap (λ (known : List (Item (List ℕ))). known ++ other ∷ []) no_items in
    let whole : items piece ≡ items (take used piece) ++ items (rest (take used piece) ++ drop used piece) = ap items (sym (take-append-drop used piece)) ∙ (reads_on_lem (take used piece) (drop used piece)).items_go_on in
    let same : other ∷ items (rest (take used piece) ++ drop used piece) ≡ item ∷ [] = sym (whole ∙ ap (λ (known : List (Item (List ℕ))). known ++ items (rest (take used piece) ++ drop used piece)) front) ∙ reads in
    let equal : other ≡ item = cc in
    ap Some equal

-- What is on a way that isn't empty: one message, and what the framer finds at its end is its DATA.
pub record IsOne (messages : List Message) (found : Option (Item (List ℕ))) : Type 0 where
  pub message : Message
  pub are : messages ≡ message ∷ []
  pub in_range : InRange message
  pub is : found ≡ Some (Good (text message))

one_on : (way : Way) (used : ℕ) (found : Option (Item (List ℕ))) → ((text : List ℕ) → StandsFor way.framer text → Feeds text way.bytes.items used found) → 0 < length way.bytes.items
    → (every count : ℕ) (messages : List Message) → Carries way every count messages → IsOne messages found
one_on way used found feeds some every count [] is = absurd (omega (arith, some, ap (λ (bytes : List ℕ). length bytes) is.bytes))
one_on way used found feeds some every count (message ∷ []) is = record {
  message = message;
  are = refl;
  in_range = All-head InRange message [] is.in_range;
  is = one_item way.bytes.items used found (Good (text message)) (feeds [] is.framer) reads;
}
  where
    reads : items way.bytes.items ≡ Good (text message) ∷ []
    reads =
        ap items (is.bytes ∙ append-nil (frame (text message)))
        ∙ (reads_one (text message) (omega arith, omega (arith, text_most message))).all_items
one_on way used found feeds some every count (message ∷ other ∷ messages) is = absurd (omega (arith, is.few))

-- the message that the framer finds in these bytes is what was on the way
pub taken_on : (way : Way) (piece : List ℕ) (used : ℕ) (found : Option (Item (List ℕ))) (taken : Option Message) → piece ≡ way.bytes.items
    → ((text : List ℕ) → StandsFor way.framer text → Feeds text piece used found) → (least : ℕ) → length way.bytes.items ≡ least → least ≢ 0
    → ((message : Message) → InRange message → found ≡ Some (Good (text message)) → taken ≡ Some message)
    → (every count : ℕ) (messages : List Message) → Carries way every count messages → option_to_list taken ≡ messages
taken_on way piece used found taken same feeds least long some reads every count messages is =
    ap option_to_list (reads one.message one.in_range one.is) ∙ sym one.are
  where
    feeds_on : (text : List ℕ) → StandsFor way.framer text → Feeds text way.bytes.items used found
    feeds_on text stands = subst (λ (bytes : List ℕ). Feeds text bytes used found) same (feeds text stands)

    one : IsOne messages found
    one = one_on way used found feeds_on (omega (arith, long, some)) every count messages is
