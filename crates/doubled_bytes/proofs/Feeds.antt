-- What feeding does, by the items of the text so far.
use Rattle.std.proofs.Common.{◌≡◌, ℕ, ◌+◌, ◌≤◌, ◌<◌, List, [], ◌∷◌, ◌++◌, length, take, drop, get_or, Some, None, sym, ap, ◌∙◌, arith}
use Rattle.std.proofs.lemmas.List.{append-nil, append_assoc, length-append, nil_from_length, take_more, take-take, take-append-drop}
use Rattle.doubled_bytes.specs.Reading.{Reading}
use Rattle.doubled_bytes.specs.Laws.{ReadsOn}
use Rattle.doubled_bytes.specs.Feeding.{Feeds}

-- each text's reading goes on
abbrev pub AlwaysReadsOn : {Item : Type 0} → (List ℕ → Reading Item) → Type 0
AlwaysReadsOn reading = (text more : List ℕ) → ReadsOn reading text more

-- the items of a text, as a reading says them
abbrev pub items_by : {Item : Type 0} → (List ℕ → Reading Item) → List ℕ → List Item
items_by reading text = (reading text).items

-- Where no item ends in a front of a piece, none ends in a shorter front.
pub none_before : {Item : Type 0} (reading : List ℕ → Reading Item) → AlwaysReadsOn reading → (text piece : List ℕ) (n m : ℕ) → n ≤ m → items_by reading (text ++ take m piece) ≡ items_by reading text → items_by reading (text ++ take n piece) ≡ items_by reading text
none_before {Item} reading on text piece n m within none =
    let split : take n piece ++ drop n (take m piece) ≡ take m piece = ap (λ (front : List ℕ). front ++ drop n (take m piece)) (sym (take-take n m piece within)) ∙ take-append-drop n (take m piece) in
    let first = on text (take n piece) in
    let second = on (text ++ take n piece) (drop n (take m piece)) in
    let joins : (text ++ take n piece) ++ drop n (take m piece) ≡ text ++ take m piece = append_assoc text (take n piece) (drop n (take m piece)) ∙ ap (λ (front : List ℕ). text ++ front) split in
    let more = items_by reading ((reading text).rest ++ take n piece) in
    let last = items_by reading ((reading (text ++ take n piece)).rest ++ drop n (take m piece)) in
    let whole : items_by reading text ≡ items_by reading (text ++ take n piece) ++ last = sym none ∙ ap (items_by reading) (sym joins) ∙ second.items_go_on in
    let empty : more ≡ [] = nil_from_length more (omega (arith, ap (length {A = Item}) whole, ap (length {A = Item}) first.items_go_on, length-append (items_by reading (text ++ take n piece)) last, length-append (items_by reading text) more)) in
    first.items_go_on ∙ ap (λ (more : List Item). items_by reading text ++ more) empty ∙ append-nil (items_by reading text)

-- a piece in which no item ends
pub feeds_none : {Item : Type 0} (reading : List ℕ → Reading Item) → AlwaysReadsOn reading → (text piece : List ℕ) (n : ℕ) → n ≡ length piece → items_by reading (text ++ take n piece) ≡ items_by reading text → Feeds (items_by reading) text piece n None
feeds_none reading on text piece n all none = record {
  within = omega arith;
  adds = none ∙ sym (append-nil (items_by reading text));
  is_first = λ k below. none_before reading on text piece k n (omega arith) none;
  uses_all = λ _. all;
}

-- a piece in which an item ends behind a front in which none ends
pub feeds_item : {Item : Type 0} (reading : List ℕ → Reading Item) → AlwaysReadsOn reading → (text piece : List ℕ) (n byte : ℕ) (item : Item) → n < length piece → byte ≡ get_or piece n 0 → items_by reading (text ++ take n piece) ≡ items_by reading text
    → items_by reading ((text ++ take n piece) ++ byte ∷ []) ≡ items_by reading (text ++ take n piece) ++ item ∷ [] → Feeds (items_by reading) text piece (n + 1) (Some item)
feeds_item {Item} reading on text piece n byte item within is none ends =
    let front : take (n + 1) piece ≡ take n piece ++ byte ∷ [] = take_more piece n 0 within ∙ ap (λ (byte : ℕ). take n piece ++ byte ∷ []) (sym is) in
    record {
      within = omega arith;
      adds = ap (λ (front : List ℕ). items_by reading (text ++ front)) front ∙ ap (items_by reading) (sym (append_assoc text (take n piece) (byte ∷ []))) ∙ ends ∙ ap (λ (before : List Item). before ++ item ∷ []) none;
      is_first = λ k below. none_before reading on text piece k n (omega arith) none;
      uses_all = λ is_none. cc;
    }
