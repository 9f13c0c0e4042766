-- A read of a panel's link gives a piece, and leaves the others.
use Rattle.std.proofs.Common.{◌≡◌, if◌then◌else◌, ℕ, zero, suc, ◌+◌, ◌*◌, ◌<◌, ◌≤◌, Bool, true, false, leb, List, [], ◌∷◌, ◌++◌, All, length, map, take, drop, min, refl, sym, ap, ◌∙◌, subst, arith, length-append, length-drop, length-take}
use Rattle.std.specs.Int.{div_ceil}
use Rattle.std.specs.List.{list_any, range_with_len}
use Rattle.std.specs.Prelude.{◌==◌}
use Rattle.std.proofs.lemmas.Bool.{le-leb, leb-false}
use Rattle.std.proofs.lemmas.List.{append-nil, drop_at, length_push, take_at}
use Rattle.std.proofs.lemmas.List.Concat.{flat_map-append}
use Rattle.std.proofs.lemmas.List.Elements.{All-nil, All-cons, All-head, All-tail, All-push, All-take, All-drop}
use Rattle.std.proofs.lemmas.List.FromFn.{length-map-range_with_len}
use Rattle.ctl_io.specs.Calls.{called, next_fails}
use Rattle.ctl_io.specs.ReadHalf.{Reading}
use Rattle.ctl_net.specs.Link.{told_after}
use Rattle.ctl_net.specs.LinkEvents.{ahead, behind_first, bytes_of, first_answer}
use Rattle.ctl_net.specs.MemLink.{InputState, after_first, after_input, unread}
use Rattle.ctl_net.specs.declared.link_event.LinkEvent.{LinkEvent}
use Rattle.ctl_net.specs.declared.link_event.LinkEvent.TheVariants.{Piece, Idle}
use Rattle.ctl_net.proofs.LinkEventsLemmas.{ahead_piece}
use Rattle.drill.specs.Pieces.{piece_at, piece_count, piece_len}
use Rattle.drill.specs.PanelLinkInside.{ArePieces, GivesPieces, HadRoom, IsPiece, bytes_given}
use Rattle.drill.proofs.PieceLemmas.{pieces_are_all}

-- Each piece of bytes has some, and no more than a piece.
piece_within : (bytes : List ℕ) (at : ℕ) → at < piece_count bytes → IsPiece (Piece (piece_at bytes at))
piece_within bytes at below =
    let long : length (piece_at bytes at) ≡ min piece_len (length (drop (at * piece_len) bytes)) = length-take piece_len (drop (at * piece_len) bytes) in
    let left = length-drop (at * piece_len) bytes in
    (omega (arith, long, left, below), omega (arith, long))

pieces_within : (bytes : List ℕ) (first count : ℕ) → first + count ≡ piece_count bytes → All IsPiece (map (λ at. Piece (piece_at bytes at)) (range_with_len first count))
pieces_within bytes first zero is = All-nil IsPiece
pieces_within bytes first (suc count) is =
    All-cons IsPiece (Piece (piece_at bytes first)) (map (λ at. Piece (piece_at bytes at)) (range_with_len (first + 1) count))
    (piece_within bytes first (omega arith)) (pieces_within bytes (first + 1) count (omega arith))

pub begins : (events : List LinkEvent) → ArePieces events → GivesPieces (unread events [])
begins events is =
    let All_of : List LinkEvent → Type 0 = λ events. All IsPiece events in
    let count : length events ≡ piece_count is.bytes = ap (length {A = LinkEvent}) is.are ∙ length-map-range_with_len (λ (at : ℕ). Piece (piece_at is.bytes at)) 0 (piece_count is.bytes) in
    let bytes : bytes_of events ≡ is.bytes = ap bytes_of is.are ∙ pieces_are_all is.bytes in
    record {
      none_listed = refl;
      no_fault = refl;
      pieces = subst All_of (sym is.are) (pieces_within is.bytes 0 (piece_count is.bytes) (omega arith));
      some = All-nil (λ (reading : Reading). 0 < length reading.bytes);
      counted = λ had. omega (arith, count, ap piece_count bytes);
    }

-- No empty piece is passed over.
none_empty : (events : List LinkEvent) → All IsPiece events → ahead events ≡ events
none_empty [] all = refl
none_empty (Piece bytes ∷ events) all = ahead_piece bytes events (All-head IsPiece (Piece bytes) events all).0
none_empty (Idle ∷ events) all = absurd (All-head IsPiece Idle events all)

pieces_behind : (events : List LinkEvent) (room : ℕ) → 0 < room → All IsPiece events → All IsPiece (behind_first events room)
pieces_behind [] room some all = all
pieces_behind (Piece bytes ∷ events) room some all =
    let is = All-head IsPiece (Piece bytes) events all in
    let others = All-tail IsPiece (Piece bytes) events all in
    elim (leb (length bytes) room) as (λ b. leb (length bytes) room ≡ b → All IsPiece (if b then events else Piece (drop room bytes) ∷ events)) [
      | true ↦ λ fits. others
      | false ↦ λ longer.
          let left = length-drop room bytes in
          let more : room < length bytes = leb-false (length bytes) room longer in
          All-cons IsPiece (Piece (drop room bytes)) events (omega (arith, left, more), omega (arith, left, is.1)) others
    ] refl
pieces_behind (Idle ∷ events) room some all = absurd (All-head IsPiece Idle events all)

-- a read gave bytes
abbrev GaveSome : Reading → Type 0
GaveSome reading = 0 < length reading.bytes

some_given : (events : List LinkEvent) (room : ℕ) (into : List ℕ) (reads : List Reading) → 0 < room → length into ≡ room → All IsPiece events → All GaveSome reads → All GaveSome (told_after (first_answer events room) room into reads)
some_given [] room into reads some long all given = given
some_given (Piece bytes ∷ events) room into reads some long all given =
    let is = All-head IsPiece (Piece bytes) events all in
    let n = min room (length bytes) in
    All-push GaveSome reads (record { room = room; bytes = take n into }) given (omega (arith, length-take n into, is.0, some, long))
some_given (Idle ∷ events) room into reads some long all given = absurd (All-head IsPiece Idle events all)

-- So many pieces are read and left.
abbrev AreCounted : List Reading → List LinkEvent → Type 0
AreCounted reads events = All HadRoom reads → length reads + length events ≡ piece_count (bytes_given reads ++ bytes_of events)

-- one read more, of a whole piece
whole_counted : (bytes into : List ℕ) (room : ℕ) (events : List LinkEvent) (reads : List Reading) → length into ≡ room → length bytes ≤ room → AreCounted reads (Piece bytes ∷ events)
    → All HadRoom reads → AreCounted (reads ++ record { room = room; bytes = take (min room (length bytes)) into } ∷ []) events
whole_counted bytes into room events reads long fits counted had all =
    let n = min room (length bytes) in
    let one : Reading = record { room = room; bytes = take n into } in
    let given : bytes_given (reads ++ one ∷ []) ≡ bytes_given reads ++ take n into =
    flat_map-append (λ (reading : Reading). reading.bytes) reads (one ∷ []) ∙ ap (λ (more : List ℕ). bytes_given reads ++ more) (append-nil (take n into)) in
    let lengths : length (bytes_given reads ++ (bytes ++ bytes_of events)) ≡ length (bytes_given (reads ++ one ∷ []) ++ bytes_of events) =
    omega (
      arith,
      length-append (bytes_given reads) (bytes ++ bytes_of events),
      length-append bytes (bytes_of events),
      length-append (bytes_given (reads ++ one ∷ [])) (bytes_of events),
      ap (length {A = ℕ}) given,
      length-append (bytes_given reads) (take n into),
      length-take n into,
      long,
      fits,
    ) in
    omega (arith, length_push reads one, counted had, ap (λ (n : ℕ). div_ceil n piece_len) lengths)

counted_on : (events : List LinkEvent) (room : ℕ) (into : List ℕ) (reads : List Reading) → length into ≡ room → All IsPiece events → AreCounted reads events
    → AreCounted (told_after (first_answer events room) room into reads) (behind_first events room)
counted_on [] room into reads long all counted had = counted had
counted_on (Piece bytes ∷ events) room into reads long all counted had =
    let is = All-head IsPiece (Piece bytes) events all in
    let one : Reading = record { room = room; bytes = take (min room (length bytes)) into } in
    let Had : List Reading → Type 0 = λ reads. All HadRoom reads in
    let before : All HadRoom reads = subst Had (take_at reads (one ∷ []) (length reads) refl) (All-take HadRoom (length reads) (reads ++ one ∷ []) had) in
    let roomy : piece_len ≤ room = All-head HadRoom one [] (subst Had (drop_at reads (one ∷ []) (length reads) refl) (All-drop HadRoom (length reads) (reads ++ one ∷ []) had)) in
    let fits : length bytes ≤ room = omega (arith, is.1, roomy) in
    let whole : leb (length bytes) room ≡ true = le-leb (length bytes) room fits in
    let Left : Bool → Type 0 = λ b. length (reads ++ one ∷ []) + length (if b then events else Piece (drop room bytes) ∷ events) ≡ piece_count (bytes_given (reads ++ one ∷ []) ++ bytes_of (if b then events else Piece (drop room bytes) ∷ events)) in
    subst Left (sym whole) (whole_counted bytes into room events reads long fits counted before had)
counted_on (Idle ∷ events) room into reads long all counted had = absurd (All-head IsPiece Idle events all)

gives_first : (input : InputState) (room : ℕ) (into : List ℕ) → GivesPieces input → 0 < room → length into ≡ room → GivesPieces (after_first (record input { calls = called false input.calls }) room into)
gives_first input room into is some long = record {
  none_listed = is.none_listed;
  no_fault = is.no_fault;
  pieces = pieces_behind input.events room some is.pieces;
  some = some_given input.events room into input.reads some long is.pieces is.some;
  counted = counted_on input.events room into input.reads long is.pieces is.counted;
}

-- So it is after any read.
pub gives_on : (input : InputState) (room : ℕ) (into : List ℕ) → GivesPieces input → 0 < room → length into ≡ room → GivesPieces (after_input input room into)
gives_on input room into is some long =
    let none : next_fails input.calls ≡ false = ap (λ (failing : List ℕ). list_any (λ (number : ℕ). number == input.calls.made) failing) is.none_listed in
    let first : ahead input.events ≡ input.events = none_empty input.events is.pieces in
    let Of : List LinkEvent → Type 0 = λ events. GivesPieces (after_first (record input { events = events; calls = called false input.calls }) room into) in
    let After : Bool → Type 0 = λ fails. GivesPieces (if fails then record input { calls = called true input.calls } else after_first (record input { events = ahead input.events; calls = called false input.calls }) room into) in
    subst After (sym none) (subst Of (sym first) (gives_first input room into is some long))
