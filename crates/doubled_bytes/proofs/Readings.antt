-- Reading by starts: the steps are no part of it, and a text's reading goes on.
use Rattle.std.proofs.Common.{◌≡◌, ℕ, zero, suc, ◌<◌, List, ◌++◌, length, refl, sym, ap, ◌∙◌, subst, arith}
use Rattle.doubled_bytes.specs.Reading.{Reading, ByStart, only_rest, with_item, reading_within, reading_by}
use Rattle.doubled_bytes.specs.Laws.{ReadsByStart, OneReadsByStart, ReadsOn, ItemsStay}

-- Two readings that agree on each shorter text agree on a text by its start.
abbrev pub GoesOnShorter : {Item : Type 0} → ByStart Item → Type 0
GoesOnShorter {Item} by_start = (f g : List ℕ → Reading Item) (text : List ℕ) → ((t : List ℕ) → length t < length text → f t ≡ g t) → by_start f text ≡ by_start g text

-- once the steps are enough, more of them change nothing
reading_within-same : {Item : Type 0} (by_start : ByStart Item) → GoesOnShorter by_start → (m n : ℕ) (text : List ℕ) → length text < m → length text < n → reading_within by_start m text ≡ reading_within by_start n text
reading_within-same by_start shorter zero n text in_m in_n = absurd (omega arith)
reading_within-same by_start shorter (suc m) zero text in_m in_n = absurd (omega arith)
reading_within-same by_start shorter (suc m) (suc n) text in_m in_n =
    shorter (reading_within by_start m) (reading_within by_start n) text (λ t few. reading_within-same by_start shorter m n t (omega arith) (omega arith))

-- The steps are no part of the meaning.
pub reading_by-start : {Item : Type 0} (by_start : ByStart Item) → GoesOnShorter by_start → ReadsByStart by_start (reading_by by_start)
reading_by-start by_start shorter text =
    shorter (reading_within by_start (length text)) (reading_by by_start) text (λ t few. reading_within-same by_start shorter (length text) (suc (length t)) t few (omega arith))

only_within : {Item : Type 0} (by_start : ByStart Item) → GoesOnShorter by_start → (f g : List ℕ → Reading Item) → ReadsByStart by_start f → ReadsByStart by_start g → (n : ℕ) (text : List ℕ) → length text < n → f text ≡ g text
only_within by_start shorter f g by_f by_g zero text within = absurd (omega arith)
only_within by_start shorter f g by_f by_g (suc n) text within =
    by_f text ∙ shorter f g text (λ t few. only_within by_start shorter f g by_f by_g n t (omega arith)) ∙ sym (by_g text)

-- one reading alone goes by each text's start
pub reading_only : {Item : Type 0} (by_start : ByStart Item) → GoesOnShorter by_start → (reading : List ℕ → Reading Item) → ReadsByStart by_start reading → OneReadsByStart by_start reading
reading_only by_start shorter reading by reads by_reads text = only_within by_start shorter reads reading by_reads by (suc (length text)) text (omega arith)

-- one reading, and then another
abbrev pub followed : {Item : Type 0} → Reading Item → Reading Item → Reading Item
followed first second = record { items = first.items ++ second.items; rest = second.rest }

-- A text that goes on has the items of the text, and then those of its rest and what comes.
abbrev pub GoesOn : {Item : Type 0} → (List ℕ → Reading Item) → List ℕ → List ℕ → Type 0
GoesOn reading more text = reading (text ++ more) ≡ followed (reading text) (reading ((reading text).rest ++ more))

goes_on_as : {Item : Type 0} (reading : List ℕ → Reading Item) (more text : List ℕ) (is : Reading Item) → reading text ≡ is → reading (text ++ more) ≡ followed is (reading (is.rest ++ more)) → GoesOn reading more text
goes_on_as {Item} reading more text is same goes = let P : Reading Item → Type 0 = λ is. reading (text ++ more) ≡ followed is (reading (is.rest ++ more)) in subst P (sym same) goes

-- where a text is all rest,
pub goes_on_rest : {Item : Type 0} (reading : List ℕ → Reading Item) (more text : List ℕ) → reading text ≡ only_rest text → GoesOn reading more text
goes_on_rest reading more text same = goes_on_as reading more text (only_rest text) same refl

-- where it is read as what is behind its start,
pub goes_on_behind : {Item : Type 0} (reading : List ℕ → Reading Item) (more text behind : List ℕ) → reading text ≡ reading behind → reading (text ++ more) ≡ reading (behind ++ more) → GoesOn reading more behind → GoesOn reading more text
goes_on_behind reading more text behind same same_more goes = goes_on_as reading more text (reading behind) same (same_more ∙ goes)

-- and where an item stands before that.
pub goes_on_item : {Item : Type 0} (reading : List ℕ → Reading Item) (more text behind : List ℕ) (item : Item) → reading text ≡ with_item item (reading behind) → reading (text ++ more) ≡ with_item item (reading (behind ++ more)) → GoesOn reading more behind → GoesOn reading more text
goes_on_item reading more text behind item same same_more goes = goes_on_as reading more text (with_item item (reading behind)) same (same_more ∙ ap (with_item item) goes)

-- A text goes on if it does where each shorter one does.
abbrev pub GoesOnByShorter : {Item : Type 0} → (List ℕ → Reading Item) → Type 0
GoesOnByShorter reading = (more text : List ℕ) → ((t : List ℕ) → length t < length text → GoesOn reading more t) → GoesOn reading more text

goes_on_within : {Item : Type 0} (reading : List ℕ → Reading Item) → GoesOnByShorter reading → (n : ℕ) (more text : List ℕ) → length text < n → GoesOn reading more text
goes_on_within reading by zero more text within = absurd (omega arith)
goes_on_within reading by (suc n) more text within = by more text (λ t few. goes_on_within reading by n more t (omega arith))

pub goes_on_always : {Item : Type 0} (reading : List ℕ → Reading Item) → GoesOnByShorter reading → (text more : List ℕ) → GoesOn reading more text
goes_on_always reading by text more = goes_on_within reading by (suc (length text)) more text (omega arith)

pub reads_on_by : {Item : Type 0} (reading : List ℕ → Reading Item) (text more : List ℕ) → GoesOn reading more text → ReadsOn reading text more
reads_on_by {Item} reading text more goes = record {
  items_go_on = ap (λ (reading : Reading Item). reading.items) goes;
  rest_goes_on = ap (λ (reading : Reading Item). reading.rest) goes;
}

pub items_stay : {Item : Type 0} (reading : List ℕ → Reading Item) → ((text more : List ℕ) → ReadsOn reading text more) → ItemsStay reading
items_stay reading on text longer front =
    ((reading ((reading text).rest ++ front.0)).items, sym (on text front.0).items_go_on ∙ ap (λ (text : List ℕ). (reading text).items) front.1)
