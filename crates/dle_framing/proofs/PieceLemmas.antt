-- Pieces that are fed one after the other.
use Rattle.std.proofs.Common.{◌≡◌, ℕ, ◌+◌, List, [], ◌∷◌, ◌++◌, map, take, drop, Option, Some, Vec, sym, ap, ◌∙◌, subst}
use Rattle.std.specs.Borrow.{Bor}
use Rattle.std.specs.Option.{option_map, option_to_list}
use Rattle.std.proofs.lemmas.List.{append_assoc, map-append}
use Rattle.dle_framing.specs.declared.framer.Framer.{Framer}
use Rattle.dle_framing.specs.declared.item.Item.{Item}
use Rattle.dle_framing.specs.Feeding.{Feeds, shown}
use Rattle.dle_framing.specs.Framer.{StandsFor, GoesOver}
use Rattle.dle_framing.specs.FramerInside.{AddsOnto}
use Rattle.dle_framing.specs.Items.{items}
use Rattle.dle_framing.specs.Owned.{owned}
use Rattle.dle_framing.proofs.FeedLemmas.{take-add}

-- bytes, and then more
pub adds_more : (first second : List ℕ) (a b c : Framer) (given then last : List (Item (List ℕ))) → AddsOnto first a given b then → AddsOnto second b then c last → AddsOnto (first ++ second) a given c last
adds_more first second a b c given then last before behind = (
  before.0 ++ behind.0,
  behind.1 ∙ ap (λ (then : List (Item (List ℕ))). then ++ behind.0) before.1 ∙ append_assoc given before.0 behind.0,
  λ text stands.
      let there = before.2 text stands in
      let on = behind.2 (text ++ first) there.1 in
      let P : List ℕ → Type 0 = λ whole. (items whole ≡ items text ++ (before.0 ++ behind.0)) × StandsFor c whole in
      subst P (append_assoc text first second)
      (on.0 ∙ ap (λ (given : List (Item (List ℕ))). given ++ behind.0) there.0 ∙ append_assoc (items text) before.0 behind.0, on.1),
)

-- a front of a piece, and then a front of what is left
pub adds_to : (piece left : List ℕ) (used n : ℕ) (a b c : Framer) (given then last : List (Item (List ℕ))) → AddsOnto (take used piece) a given b then → left ≡ drop used piece → AddsOnto (take n left) b then c last → AddsOnto (take (used + n) piece) a given c last
adds_to piece left used n a b c given then last before is behind =
    let P : List ℕ → Type 0 = λ front. AddsOnto front a given c last in
    subst P (ap (λ (left : List ℕ). take used piece ++ take n left) is ∙ sym (take-add used n piece)) (adds_more (take used piece) (take n left) a b c given then last before behind)

-- what one call of `feed` adds
pub adds_item : (piece : List ℕ) (used : ℕ) (item : Option (Item (List ℕ))) (before after : Framer) (given then : List (Item (List ℕ)))
    → ((text : List ℕ) → StandsFor before text → Feeds text piece used item) → GoesOver (take used piece) before after → then ≡ given ++ option_to_list item → AddsOnto (take used piece) before given after then
adds_item piece used item before after given then feeds goes is = (option_to_list item, is, λ text stands. ((feeds text stands).adds, goes text stands))

-- an item of which a copy was appended
pub copy_added : {Z : Type 0} (given then : List (Item (Vec ℕ Z))) (copy : Item (Vec ℕ Z)) (item : Item (Bor (List ℕ))) (answer : Option (Item (Bor (List ℕ)))) → then ≡ given ++ copy ∷ [] → owned copy ≡ shown item → answer ≡ Some item
    → map (owned {Z = Z}) then ≡ map (owned {Z = Z}) given ++ option_to_list (option_map shown answer)
copy_added {Z} given then copy item answer is same some =
    ap (map (owned {Z = Z})) is
    ∙ map-append (owned {Z = Z}) given (copy ∷ [])
    ∙ ap (λ (item : Item (List ℕ)). map (owned {Z = Z}) given ++ item ∷ []) same
    ∙ ap (λ (answer : Option (Item (Bor (List ℕ)))). map (owned {Z = Z}) given ++ option_to_list (option_map shown answer)) (sym some)
