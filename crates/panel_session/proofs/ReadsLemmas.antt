-- What a session that is served has read.
use Rattle.std.proofs.Common.{◌≡◌, ℕ, ◌+◌, ◌*◌, ◌≤◌, List, [], ◌∷◌, ◌++◌, length, map, All, Option, None, Some, refl, sym, ap, ◌∙◌, subst, arith}
use Rattle.std.specs.Option.{option_map, option_to_list}
use Rattle.std.proofs.lemmas.List.{append_assoc, append-nil, length-append, map-append}
use Rattle.std.proofs.lemmas.List.Elements.{All-head, All-tail}
use Rattle.ctl_io.specs.Faults.{one_more}
use Rattle.ctl_io.specs.ReadHalf.{Reading}
use Rattle.dle_framing.specs.declared.item.Item.{Item}
use Rattle.dle_framing.specs.Items.{TextReading, items}
use Rattle.dle_framing.proofs.Readings.{reading-by_start}
use Rattle.panel_session.specs.Served.{AreTaken, all_read, idles_after, read_of, read_room}
use Rattle.panel_session.specs.Turns.{Turn, bytes_read}
use Rattle.panel_session.proofs.ByteEnds.{byte_ends}

-- a byte ends at most one item, so there are no more of them than bytes
one_item : (item : Option (Item (List ℕ))) → length (option_to_list item) ≤ 1
one_item None = omega arith
one_item (Some item) = omega arith

more_items : (text more : List ℕ) → length (items (text ++ more)) ≤ length (items text) + length more
more_items text [] = omega (arith, ap (λ (text : List ℕ). length (items text)) (append-nil text))
more_items text (byte ∷ more) =
    let ends = byte_ends text byte in
    omega (
      arith,
      more_items (text ++ byte ∷ []) more,
      ap (λ (text : List ℕ). length (items text)) (append_assoc text (byte ∷ []) more),
      ap (length {A = Item (List ℕ)}) ends.1,
      length-append (items text) (option_to_list ends.0),
      one_item ends.0,
    )

no_items : items [] ≡ []
no_items = ap (λ (reading : TextReading). reading.items) (reading-by_start [])

pub few_items : (text : List ℕ) → length (items text) ≤ length text
few_items text = omega (arith, more_items [] text, ap (length {A = Item (List ℕ)}) no_items)

-- the bytes of reads
pub read-append : (one other : List (List ℕ)) → all_read (one ++ other) ≡ all_read one ++ all_read other
read-append [] other = refl
read-append (read ∷ one) other = ap (λ (bytes : List ℕ). read ++ bytes) (read-append one other) ∙ sym (append_assoc read (all_read one) (all_read other))

pub read-more : (reads : List (List ℕ)) (piece : List ℕ) → all_read (reads ++ piece ∷ []) ≡ all_read reads ++ piece
read-more reads piece = read-append reads (piece ∷ []) ∙ ap (λ (bytes : List ℕ). all_read reads ++ bytes) (append-nil piece)

pub read-pieces : (turns : List Turn) → bytes_read turns ≡ all_read (map (λ turn. turn.piece) turns)
read-pieces [] = refl
read-pieces (turn ∷ turns) = ap (λ (bytes : List ℕ). turn.piece ++ bytes) (read-pieces turns)

pub short_all : (reads : List (List ℕ)) → All (λ (read : List ℕ). length read ≤ read_room) reads → length (all_read reads) ≤ 4096 * length reads
short_all [] short = omega arith
short_all (read ∷ reads) short =
    omega (
      arith,
      length-append read (all_read reads),
      short_all reads (All-tail (λ (read : List ℕ). length read ≤ read_room) read reads short),
      All-head (λ (read : List ℕ). length read ≤ read_room) read reads short,
    )

-- What is told of reads, and of one more.
pub told_none : (reads : Option (List Reading)) → reads ≡ option_map (λ (former : List Reading). former ++ []) reads
told_none None = refl
told_none (Some all) = ap Some (sym (append-nil all))

pub told_both : (reads : List (List ℕ)) (piece : List ℕ) (a b c : Option (List Reading)) → b ≡ option_map (λ (former : List Reading). former ++ map read_of reads) a → c ≡ option_map (λ (former : List Reading). former ++ read_of piece ∷ []) b
    → c ≡ option_map (λ (former : List Reading). former ++ map read_of (reads ++ piece ∷ [])) a
told_both reads piece None b c told more = more ∙ ap (option_map (λ (former : List Reading). former ++ read_of piece ∷ [])) told
told_both reads piece (Some all) b c told more =
    more
    ∙ ap (option_map (λ (former : List Reading). former ++ read_of piece ∷ [])) told
    ∙ ap Some (append_assoc all (map read_of reads) (read_of piece ∷ []) ∙ ap (λ (later : List Reading). all ++ later) (sym (map-append read_of reads (piece ∷ []))))

pub taken_none : (left : Option (List ℕ)) → AreTaken [] left left
taken_none None = refl
taken_none (Some all) = (all, refl, refl)

pub taken_both : (one other : List ℕ) (a b c : Option (List ℕ)) → AreTaken one a b → AreTaken other b c → AreTaken (one ++ other) a c
taken_both one other None b c taken more = (let At : Option (List ℕ) → Type 0 = λ left. AreTaken other left c in subst At taken more)
taken_both one other (Some all) b c taken more =
    let At : Option (List ℕ) → Type 0 = λ left. AreTaken other left c in
    let next = subst At taken.1 more in
    (next.0, next.1, taken.2 ∙ ap (λ (rest : List ℕ). one ++ rest) next.2 ∙ sym (append_assoc one other next.0))

pub idles_both : (reads : List (List ℕ)) (piece : List ℕ) (count : ℕ) → idles_after (reads ++ piece ∷ []) count ≡ idles_after (piece ∷ []) (idles_after reads count)
idles_both [] piece count = refl
idles_both ([] ∷ reads) piece count = idles_both reads piece (one_more count)
idles_both ((byte ∷ bytes) ∷ reads) piece count = idles_both reads piece count
