-- The read half of a link in memory.
use Rattle.std.proofs.Common.{◌≡◌, ℕ, ◌+◌, ◌-◌, ◌<◌, ◌≤◌, true, false, leb, if◌then◌else◌, List, [], ◌∷◌, ◌++◌, length, take, drop, min, vec_capacity, refl, sym, ◌∙◌, ap, subst, arith, length-drop}
use Rattle.std.specs.Global.{Vec}
use Rattle.std.proofs.lemmas.Grind.{common_steps}
use Rattle.std.proofs.lemmas.Bool.{le-leb, lt-leb}
use Rattle.std.proofs.lemmas.List.{drop-drop, drop_at, drop-append-le, take-append-le}
use Rattle.std.proofs.Math.Seq.{take-length}
use Rattle.ctl_io.specs.Calls.{Calls}
use Rattle.ctl_io.specs.Faults.{one_more}
use Rattle.ctl_io.specs.ReadHalf.{Reading}
use Rattle.ctl_net.specs.LinkEvents.{bytes_of, ahead, most_reads}
use Rattle.ctl_net.specs.MemLink.{InputState, after_first}
use Rattle.ctl_net.specs.InputInside.{cut_first, FitsFirst, counted, readings, left_events, input_state, IsAt}
use Rattle.ctl_net.specs.declared.memory.mem_input.MemInput.TheInside.{Inside}
use Rattle.ctl_net.specs.declared.link_event.LinkEvent.{LinkEvent}
use Rattle.ctl_net.specs.declared.link_event.LinkEvent.TheVariants as event
use Rattle.ctl_net.specs.declared.memory.mem_input.PastRead.{PastRead}
use Rattle.ctl_net.proofs.LinkEventsLemmas.{ahead_piece, bytes_ahead, most_ahead}

-- no bytes are cut off
pub cut_none : (events : List LinkEvent) → cut_first 0 events ≡ events
cut_none [] = refl
cut_none (event.Piece bytes ∷ events) = refl
cut_none (event.Idle ∷ events) = refl

pub fits_none : (events : List LinkEvent) → FitsFirst 0 events
fits_none [] = refl
fits_none (event.Piece bytes ∷ events) = λ some. absurd (omega arith)
fits_none (event.Idle ∷ events) = refl

-- a piece of which bytes are left isn't empty
pub ahead_part : (n : ℕ) (events : List LinkEvent) → 0 < n → FitsFirst n events → ahead (cut_first n events) ≡ cut_first n events
ahead_part n [] some fits = refl
ahead_part n (event.Piece bytes ∷ events) some fits = ahead_piece (drop n bytes) events (grind (arith, common_steps, fits some))
ahead_part n (event.Idle ∷ events) some fits = refl

pub counted_more : (told : List PastRead) (one : PastRead) → counted (told ++ one ∷ []) ≡ counted told + one.count
counted_more [] one = grind arith
counted_more (first ∷ told) one = grind (arith, counted_more told one)

pub readings_more : (told : List PastRead) (one : PastRead) (bytes : List ℕ) → readings (told ++ one ∷ []) bytes ≡ readings told bytes ++ record { room = one.room; bytes = take one.count (drop (counted told) bytes) } ∷ []
readings_more [] one bytes = refl
readings_more (first ∷ told) one bytes =
    let rest : drop (counted told) (drop first.count bytes) ≡ drop (first.count + counted told) bytes = drop-drop (counted told) first.count bytes in
    ap (λ (reads : List Reading). record { room = first.room; bytes = take first.count bytes } ∷ reads) (readings_more told one (drop first.count bytes) ∙ ap (λ (left : List ℕ). readings told (drop first.count bytes) ++ record { room = one.room; bytes = take one.count left } ∷ []) rest)

-- one more read, of the bytes that are left
pub told_more : (told : List PastRead) (one : PastRead) (bytes : List ℕ) (left next : List LinkEvent) → drop (counted told) bytes ≡ bytes_of left → drop one.count (bytes_of left) ≡ bytes_of next → drop (counted (told ++ one ∷ [])) bytes ≡ bytes_of next
told_more told one bytes left next is behind =
    ap (λ n. drop n bytes) (counted_more told one) ∙ (sym (drop-drop one.count (counted told) bytes) ∙ (ap (λ (xs : List ℕ). drop one.count xs) is ∙ behind))

pub reads_more : (told : List PastRead) (one : PastRead) (bytes : List ℕ) (left : List LinkEvent) → drop (counted told) bytes ≡ bytes_of left → readings (told ++ one ∷ []) bytes ≡ readings told bytes ++ record { room = one.room; bytes = take one.count (bytes_of left) } ∷ []
reads_more told one bytes left is =
    readings_more told one bytes ∙ ap (λ (xs : List ℕ). readings told bytes ++ record { room = one.room; bytes = take one.count xs } ∷ []) is

abbrev state : List LinkEvent → List Reading → ℕ → Calls → InputState
state events reads idles calls = record {
  events = events;
  reads = reads;
  idles = idles;
  calls = calls;
}

same_state : (events events2 : List LinkEvent) (reads reads2 : List Reading) (idles idles2 : ℕ) (calls : Calls) → events ≡ events2 → reads ≡ reads2 → idles ≡ idles2 → state events reads idles calls ≡ state events2 reads2 idles2 calls
same_state events events2 reads reads2 idles idles2 calls e r i = rw e (rw r (rw i refl))

-- the first n bytes of a piece and what is behind it
front_read : (n : ℕ) (piece more into : List ℕ) → n ≤ length piece → take n into ≡ take n piece → take n (piece ++ more) ≡ take n into
front_read n piece more into within same = take-append-le n piece more within ∙ sym same

-- where the first event is idle
pub record FindsIdle (s : Inside) (rest : List LinkEvent) (told : Vec PastRead) (room : ℕ) : Type 0 where
  pub at : IsAt s
  pub here : s.at < length s.events.items
  pub first : drop s.at s.events.items ≡ event.Idle ∷ rest
  pub next : drop (s.at + 1) s.events.items ≡ rest
  pub pushed : told.items ≡ s.told.items ++ record { room = room; count = 0 } ∷ []
  pub same : vec_capacity told ≡ vec_capacity s.told

idle_none : (s : Inside) (rest : List LinkEvent) (told : Vec PastRead) (room : ℕ) → FindsIdle s rest told room → s.given ≡ 0
idle_none s rest told room finds = let P : List LinkEvent → Type 0 = λ events. FitsFirst s.given events in subst P finds.first finds.at.first

idle_next : (s : Inside) (rest : List LinkEvent) (told : Vec PastRead) (room : ℕ) → FindsIdle s rest told room → cut_first s.given (drop (s.at + 1) s.events.items) ≡ rest
idle_next s rest told room finds =
    ap (λ n. cut_first n (drop (s.at + 1) s.events.items)) (idle_none s rest told room finds) ∙ (cut_none (drop (s.at + 1) s.events.items) ∙ finds.next)

pub idle_is_at : (s : Inside) (rest : List LinkEvent) (told : Vec PastRead) (room idles : ℕ) → FindsIdle s rest told room → IsAt (record s { at = s.at + 1; told = told; idles = idles })
idle_is_at s rest told room idles finds =
    let none : s.given ≡ 0 = idle_none s rest told room finds in
    let left : left_events s ≡ event.Idle ∷ rest = ap (λ events. cut_first s.given events) finds.first in
    let next : cut_first s.given (drop (s.at + 1) s.events.items) ≡ rest = idle_next s rest told room finds in
    let all : List ℕ = bytes_of s.events.items in
    let behind : drop 0 (bytes_of (left_events s)) ≡ bytes_of (cut_first s.given (drop (s.at + 1) s.events.items)) = ap bytes_of left ∙ ap bytes_of (sym next) in
    record {
      within = omega (arith, finds.here);
      first = let P : ℕ → Type 0 = λ n. FitsFirst n (drop (s.at + 1) s.events.items) in subst P (sym none) (fits_none (drop (s.at + 1) s.events.items));
      told = ap (λ (ts : List PastRead). drop (counted ts) all) finds.pushed ∙ told_more s.told.items (record { room = room; count = 0 }) all (left_events s) (cut_first s.given (drop (s.at + 1) s.events.items)) finds.at.told behind;
      room = grind (arith, common_steps, finds.at.room, finds.same, finds.pushed, ap most_reads left, ap most_reads next);
    }

pub idle_view : (s : Inside) (rest : List LinkEvent) (told : Vec PastRead) (room idles : ℕ) (into : List ℕ) → FindsIdle s rest told room → idles ≡ one_more s.idles → input_state (record s { at = s.at + 1; told = told; idles = idles }) ≡ after_first (input_state s) room into
idle_view s rest told room idles into finds more =
    let left : left_events s ≡ event.Idle ∷ rest = ap (λ events. cut_first s.given events) finds.first in
    let all : List ℕ = bytes_of s.events.items in
    let reads : readings told.items all ≡ readings s.told.items all ++ record { room = room; bytes = [] } ∷ [] = ap (λ (ts : List PastRead). readings ts all) finds.pushed ∙ reads_more s.told.items (record { room = room; count = 0 }) all (left_events s) finds.at.told in
    same_state _ rest _ _ _ _ s.calls (idle_next s rest told room finds) reads more
    ∙ ap (λ (events : List LinkEvent). after_first (state events (readings s.told.items all) s.idles s.calls) room into) (sym left)

-- where the first event is a piece, of which a read gave n bytes
pub record FindsPiece (s : Inside) (bytes : List ℕ) (rest : List LinkEvent) (told : Vec PastRead) (room n : ℕ) (into : List ℕ) : Type 0 where
  pub at : IsAt s
  pub here : s.at < length s.events.items
  pub first : drop s.at s.events.items ≡ event.Piece bytes ∷ rest
  pub next : drop (s.at + 1) s.events.items ≡ rest
  pub pushed : told.items ≡ s.told.items ++ record { room = room; count = n } ∷ []
  pub same : vec_capacity told ≡ vec_capacity s.told
  pub some : 0 < n
  pub count : n ≡ min room (length (drop s.given bytes))
  pub front : take n into ≡ take n (drop s.given bytes)

piece_left : (s : Inside) (bytes : List ℕ) (rest : List LinkEvent) (told : Vec PastRead) (room n : ℕ) (into : List ℕ) → FindsPiece s bytes rest told room n into → left_events s ≡ event.Piece (drop s.given bytes) ∷ rest
piece_left s bytes rest told room n into finds = ap (λ events. cut_first s.given events) finds.first

piece_reads : (s : Inside) (bytes : List ℕ) (rest : List LinkEvent) (told : Vec PastRead) (room n : ℕ) (into : List ℕ) → FindsPiece s bytes rest told room n into → readings told.items (bytes_of s.events.items) ≡ readings s.told.items (bytes_of s.events.items) ++ record { room = room; bytes = take (min room (length (drop s.given bytes))) into } ∷ []
piece_reads s bytes rest told room n into finds =
    let all : List ℕ = bytes_of s.events.items in
    let left : left_events s ≡ event.Piece (drop s.given bytes) ∷ rest = piece_left s bytes rest told room n into finds in
    let given : take n (bytes_of (left_events s)) ≡ take (min room (length (drop s.given bytes))) into =
    ap (λ events. take n (bytes_of events)) left ∙ (front_read n (drop s.given bytes) (bytes_of rest) into (omega (arith, finds.count)) finds.front ∙ ap (λ k. take k into) finds.count) in
    ap (λ (ts : List PastRead). readings ts all) finds.pushed ∙ (reads_more s.told.items (record { room = room; count = n }) all (left_events s) finds.at.told ∙ ap (λ (one : List ℕ). readings s.told.items all ++ record { room = room; bytes = one } ∷ []) given)

pub last_is_at : (s : Inside) (bytes : List ℕ) (rest : List LinkEvent) (told : Vec PastRead) (room n : ℕ) (into : List ℕ) → FindsPiece s bytes rest told room n into → n ≡ length (drop s.given bytes) → IsAt (record s { at = s.at + 1; given = 0; told = told })
last_is_at s bytes rest told room n into finds whole =
    let left : left_events s ≡ event.Piece (drop s.given bytes) ∷ rest = piece_left s bytes rest told room n into finds in
    let next : cut_first 0 (drop (s.at + 1) s.events.items) ≡ rest = cut_none (drop (s.at + 1) s.events.items) ∙ finds.next in
    let all : List ℕ = bytes_of s.events.items in
    let behind : drop n (bytes_of (left_events s)) ≡ bytes_of (cut_first 0 (drop (s.at + 1) s.events.items)) =
    ap (λ events. drop n (bytes_of events)) left ∙ (drop_at (drop s.given bytes) (bytes_of rest) n (sym whole) ∙ ap bytes_of (sym next)) in
    record {
      within = omega (arith, finds.here);
      first = fits_none (drop (s.at + 1) s.events.items);
      told = ap (λ (ts : List PastRead). drop (counted ts) all) finds.pushed ∙ told_more s.told.items (record { room = room; count = n }) all (left_events s) (cut_first 0 (drop (s.at + 1) s.events.items)) finds.at.told behind;
      room = grind (arith, common_steps, finds.at.room, finds.same, finds.pushed, finds.some, whole, ap most_reads left, ap most_reads next);
    }

pub last_view : (s : Inside) (bytes : List ℕ) (rest : List LinkEvent) (told : Vec PastRead) (room n : ℕ) (into : List ℕ) → FindsPiece s bytes rest told room n into → n ≡ length (drop s.given bytes) → input_state (record s { at = s.at + 1; given = 0; told = told }) ≡ after_first (input_state s) room into
last_view s bytes rest told room n into finds whole =
    let left : left_events s ≡ event.Piece (drop s.given bytes) ∷ rest = piece_left s bytes rest told room n into finds in
    let next : cut_first 0 (drop (s.at + 1) s.events.items) ≡ rest = cut_none (drop (s.at + 1) s.events.items) ∙ finds.next in
    let all : List ℕ = bytes_of s.events.items in
    let fits : leb (length (drop s.given bytes)) room ≡ true = le-leb _ _ (omega (arith, finds.count, whole)) in
    let gone : rest ≡ (if leb (length (drop s.given bytes)) room then rest else event.Piece (drop room (drop s.given bytes)) ∷ rest) = rw fits refl in
    same_state _ _ _ _ s.idles _ s.calls (next ∙ gone) (piece_reads s bytes rest told room n into finds) refl
    ∙ ap (λ (events : List LinkEvent). after_first (state events (readings s.told.items all) s.idles s.calls) room into) (sym left)

-- the rest of the piece
part_next : (s : Inside) (bytes : List ℕ) (rest : List LinkEvent) (told : Vec PastRead) (room n : ℕ) (into : List ℕ) → FindsPiece s bytes rest told room n into → cut_first (s.given + n) (drop s.at s.events.items) ≡ event.Piece (drop n (drop s.given bytes)) ∷ rest
part_next s bytes rest told room n into finds =
    ap (λ events. cut_first (s.given + n) events) finds.first ∙ ap (λ (piece : List ℕ). event.Piece piece ∷ rest) (sym (drop-drop n s.given bytes))

pub part_is_at : (s : Inside) (bytes : List ℕ) (rest : List LinkEvent) (told : Vec PastRead) (room n : ℕ) (into : List ℕ) → FindsPiece s bytes rest told room n into → n < length (drop s.given bytes) → IsAt (record s { given = s.given + n; told = told })
part_is_at s bytes rest told room n into finds part =
    let left : left_events s ≡ event.Piece (drop s.given bytes) ∷ rest = piece_left s bytes rest told room n into finds in
    let next : cut_first (s.given + n) (drop s.at s.events.items) ≡ event.Piece (drop n (drop s.given bytes)) ∷ rest = part_next s bytes rest told room n into finds in
    let all : List ℕ = bytes_of s.events.items in
    let behind : drop n (bytes_of (left_events s)) ≡ bytes_of (cut_first (s.given + n) (drop s.at s.events.items)) =
    ap (λ events. drop n (bytes_of events)) left ∙ (drop-append-le n (drop s.given bytes) (bytes_of rest) (omega (arith, part)) ∙ ap bytes_of (sym next)) in
    record {
      within = finds.at.within;
      first = let P : List LinkEvent → Type 0 = λ events. FitsFirst (s.given + n) events in subst P (sym finds.first) (λ _. omega (arith, part, length-drop s.given bytes));
      told = ap (λ (ts : List PastRead). drop (counted ts) all) finds.pushed ∙ told_more s.told.items (record { room = room; count = n }) all (left_events s) (cut_first (s.given + n) (drop s.at s.events.items)) finds.at.told behind;
      room = grind (arith, common_steps, finds.at.room, finds.same, finds.pushed, finds.some, part, ap most_reads left, ap most_reads next, length-drop n (drop s.given bytes));
    }

pub part_view : (s : Inside) (bytes : List ℕ) (rest : List LinkEvent) (told : Vec PastRead) (room n : ℕ) (into : List ℕ) → FindsPiece s bytes rest told room n into → n < length (drop s.given bytes) → input_state (record s { given = s.given + n; told = told }) ≡ after_first (input_state s) room into
part_view s bytes rest told room n into finds part =
    let left : left_events s ≡ event.Piece (drop s.given bytes) ∷ rest = piece_left s bytes rest told room n into finds in
    let all : List ℕ = bytes_of s.events.items in
    let is : n ≡ room = omega (arith, finds.count, part) in
    let longer : leb (length (drop s.given bytes)) room ≡ false = lt-leb _ _ (omega (arith, is, part)) in
    let rest_is : event.Piece (drop n (drop s.given bytes)) ∷ rest ≡ (if leb (length (drop s.given bytes)) room then rest else event.Piece (drop room (drop s.given bytes)) ∷ rest) = rw longer (ap (λ k. event.Piece (drop k (drop s.given bytes)) ∷ rest) is) in
    same_state _ _ _ _ s.idles _ s.calls (part_next s bytes rest told room n into finds ∙ rest_is) (piece_reads s bytes rest told room n into finds) refl
    ∙ ap (λ (events : List LinkEvent). after_first (state events (readings s.told.items all) s.idles s.calls) room into) (sym left)

-- what lies behind the first n bytes
pub rest_all : (n : ℕ) (bytes : List ℕ) → take (length bytes - n) (drop n bytes) ≡ drop n bytes
rest_all n bytes = ap (λ k. take k (drop n bytes)) (sym (length-drop n bytes)) ∙ take-length (drop n bytes)

-- empty pieces that are passed over
passed : (s : Inside) (at : ℕ) → s.given ≡ 0 → drop at s.events.items ≡ ahead (drop s.at s.events.items) → cut_first s.given (drop at s.events.items) ≡ ahead (left_events s)
passed s at none is =
    let left : left_events s ≡ drop s.at s.events.items = ap (λ n. cut_first n (drop s.at s.events.items)) none ∙ cut_none (drop s.at s.events.items) in
    ap (λ n. cut_first n (drop at s.events.items)) none ∙ (cut_none (drop at s.events.items) ∙ (is ∙ ap ahead (sym left)))

pub passed_is_at : (s : Inside) (at : ℕ) → IsAt s → s.given ≡ 0 → at ≤ length s.events.items → drop at s.events.items ≡ ahead (drop s.at s.events.items) → IsAt (record s { at = at })
passed_is_at s at is_at none within is = record {
  within = within;
  first = let P : ℕ → Type 0 = λ n. FitsFirst n (drop at s.events.items) in subst P (sym none) (fits_none (drop at s.events.items));
  told = is_at.told ∙ (sym (bytes_ahead (left_events s)) ∙ ap bytes_of (sym (passed s at none is)));
  room = omega (arith, is_at.room, most_ahead (left_events s), ap most_reads (passed s at none is));
}

pub passed_view : (s : Inside) (at : ℕ) → s.given ≡ 0 → drop at s.events.items ≡ ahead (drop s.at s.events.items) → input_state (record s { at = at }) ≡ record (input_state s) { events = ahead (left_events s) }
passed_view s at none is = ap (λ (events : List LinkEvent). state events (readings s.told.items (bytes_of s.events.items)) s.idles s.calls) (passed s at none is)

pub stays_view : (s : Inside) → IsAt s → 0 < s.given → input_state s ≡ record (input_state s) { events = ahead (left_events s) }
stays_view s is_at some = ap (λ (events : List LinkEvent). state events (readings s.told.items (bytes_of s.events.items)) s.idles s.calls) (sym (ahead_part s.given (drop s.at s.events.items) some is_at.first))
