-- What a session of a drill reads of its link.
use Rattle.std.proofs.Common.{◌≡◌, ℕ, zero, suc, ◌+◌, ◌<◌, ◌≤◌, List, [], ◌∷◌, ◌++◌, All, length, map, refl, sym, ap, ◌∙◌, subst, arith, length-append}
use Rattle.std.specs.List.{range_with_len}
use Rattle.std.proofs.lemmas.List.{drop_at, length-map}
use Rattle.std.proofs.lemmas.List.Elements.{All-drop, All-head, All-nil, All-tail, All-cons}
use Rattle.std.proofs.lemmas.List.FromFn.{length-map-range_with_len}
use Rattle.ctl_io.specs.ReadHalf.{Reading}
use Rattle.ctl_net.specs.LinkEvents.{bytes_of}
use Rattle.ctl_net.specs.MemLink.{InputState}
use Rattle.dle_framing.specs.declared.item.Item.{Item}
use Rattle.dle_framing.specs.Items.{items}
use Rattle.dle_framing.proofs.LawLemmas.{items_front}
use Rattle.panel_session.specs.Served.{EndsIdle, all_read, read_of}
use Rattle.drill.specs.PanelLinkInside.{GivesPieces, HadRoom, bytes_given}
use Rattle.drill.specs.Pieces.{piece_count}
use Rattle.drill.specs.Stream.{item_at, items_of, stream}
use Rattle.drill.proofs.StreamLemmas.{streams_are_read}

-- The reads of a panel's link are as many as its pieces at most,
roomy : (reads : List (List ℕ)) → All HadRoom (map read_of reads)
roomy [] = All-nil HadRoom
roomy (read ∷ reads) = All-cons HadRoom (read_of read) (map read_of reads) (omega arith) (roomy reads)

given_reads : (reads : List (List ℕ)) → bytes_given (map read_of reads) ≡ all_read reads
given_reads [] = refl
given_reads (read ∷ reads) = ap (λ (bytes : List ℕ). read ++ bytes) (given_reads reads)

pub reads_few : (input : InputState) (reads : List (List ℕ)) → GivesPieces input → input.reads ≡ map read_of reads → length reads ≤ piece_count (all_read reads ++ bytes_of input.events)
reads_few input reads is told =
    let Had : List Reading → Type 0 = λ reads. All HadRoom reads in
    let counted = is.counted (subst Had (sym told) (roomy reads)) in
    let given : bytes_given input.reads ≡ all_read reads = ap bytes_given told ∙ given_reads reads in
    omega (arith, counted, ap (length {A = Reading}) told, length-map reads read_of, ap (λ (bytes : List ℕ). piece_count (bytes ++ bytes_of input.events)) given)

-- and none of them is empty,
abbrev pub HasSome : List ℕ → Type 0
HasSome read = 0 < length read

pub some_reads : (reads : List (List ℕ)) → All (λ (reading : Reading). 0 < length reading.bytes) (map read_of reads) → All HasSome reads
some_reads [] some = All-nil HasSome
some_reads (read ∷ reads) some =
    let Gave : Reading → Type 0 = λ reading. 0 < length reading.bytes in
    All-cons HasSome read reads (All-head Gave (read_of read) (map read_of reads) some) (some_reads reads (All-tail Gave (read_of read) (map read_of reads) some))

-- so that none was idle.
pub never_idle : (limit : ℕ) (reads : List (List ℕ)) → 1 ≤ limit → All HasSome reads → EndsIdle limit reads → ⊥
never_idle limit reads some all ends = at ends.idle ends.all_idle ends.counted (subst Some_of ends.reads_are all)
  where
    Some_of : List (List ℕ) → Type 0
    Some_of reads = All HasSome reads

    at : (idle : List (List ℕ)) → All (λ (read : List ℕ). read ≡ []) idle → length idle ≡ limit → All HasSome (ends.before ++ idle) → ⊥
    at [] idle counted all = omega arith
    at (read ∷ others) idle counted all =
        let behind : All HasSome (read ∷ others) = subst Some_of (drop_at ends.before (read ∷ others) (length ends.before) refl) (All-drop HasSome (length ends.before) (ends.before ++ read ∷ others) all) in
        let empty : read ≡ [] = All-head (λ (read : List ℕ). read ≡ []) read others idle in
        omega (arith, All-head HasSome read others behind, ap (length {A = ℕ}) empty)

-- The items of a front of what a panel sends are those of its first messages.
first_items : (number panel first each : ℕ) (front more : List (Item (List ℕ))) → front ++ more ≡ map (item_at number panel) (range_with_len first each) → front ≡ map (item_at number panel) (range_with_len first (length front))
first_items number panel first each [] more is = refl
first_items number panel first zero (item ∷ front) more is = absurd cc
first_items number panel first (suc each) (item ∷ front) more is =
    let here : item ≡ item_at number panel first = cc in
    let later : front ++ more ≡ map (item_at number panel) (range_with_len (first + 1) each) = cc in
    ap (λ (item : Item (List ℕ)). item ∷ front) here ∙ ap (λ (front : List (Item (List ℕ))). item_at number panel first ∷ front) (first_items number panel (first + 1) each front more later)

-- so many items were read
pub record ReadsFirst (number panel each : ℕ) (read : List ℕ) : Type 0 where
  pub count : ℕ
  pub few : count ≤ each
  pub are : items read ≡ items_of number panel count

pub reads_first : (number panel each : ℕ) (read rest : List ℕ) → read ++ rest ≡ stream number panel each → ReadsFirst number panel each read
reads_first number panel each read rest is =
    let front = items_front read (read ++ rest) (rest, refl) in
    let all : items read ++ front.0 ≡ items_of number panel each = front.1 ∙ ap items is ∙ (streams_are_read number panel each).all_items in
    record {
      count = length (items read);
      few = omega (arith, ap (length {A = Item (List ℕ)}) all, length-append (items read) front.0, length-map-range_with_len (item_at number panel) 0 each);
      are = first_items number panel 0 each (items read) front.0 all;
    }
