-- Disks in memory: what their records say.
use Rattle.std.proofs.Common.{◌≡◌, ◌⊎◌, inl, inr, ℕ, zero, suc, ◌+◌, ◌<◌, ◌≤◌, min, Bool, true, false, List, [], ◌∷◌, ◌++◌, length, take, drop, map, replicate, refl, sym, ◌∙◌, ap, subst, arith, length-append, length-take-le, length-drop, take-append-drop, Some}
use Rattle.std.proofs.lemmas.List.{take_all, take_min, take-map, drop_at, drop-append-le, take-append-le, map-append, length-replicate}
use Rattle.std.specs.List.{AllByRecursion}
use Rattle.ctl_io.specs.Disk.{overlaid, Torn}
use Rattle.ctl_io.specs.Crash.{Elapses}
use Rattle.ctl_io.specs.DiskPast.{DiskWrite, DiskEvent, WasRead, WasWritten, WasSynced, Stored, written_to, after_pending, after_sync, stored_after, WritesReach, MayLeave, LeftSince, ShownSince}
use Rattle.ctl_io.specs.MemDisk.{torn_last, crashed_at}
use Rattle.ctl_io.specs.MemDiskInside.{write_of, event_of, events_on, IsBelow, CallIsBelow, IsSpan, Agrees}
use Rattle.ctl_io.specs.declared.memory.disk_call.WriteSpan.{WriteSpan}
use Rattle.ctl_io.specs.declared.memory.disk_call.DiskCall.{DiskCall}
use Rattle.ctl_io.specs.declared.memory.disk_call.DiskCall.TheVariants as call
use Rattle.ctl_io.proofs.DiskLemmas.{length-overlaid, torn_overlaid, torn_same}

-- a write by its place and its bytes
abbrev write_with : ℕ → List ℕ → DiskWrite
write_with at bytes = record { at = at; bytes = bytes }

all_push : {A : Type 0} → (P : A → Type 0) (xs : List A) (x : A) → AllByRecursion P xs → P x → AllByRecursion P (xs ++ x ∷ [])
all_push P [] x all here = (here, tt)
all_push P (y ∷ xs) x all here = (all.0, all_push P xs x all.1 here)

all_if : {A : Type 0} → (P Q : A → Type 0) (xs : List A) → ((x : A) → P x → Q x) → AllByRecursion P xs → AllByRecursion Q xs
all_if P Q [] each all = tt
all_if P Q (x ∷ xs) each all = (each x all.0, all_if P Q xs each all.1)

all_take : {A : Type 0} → (P : A → Type 0) (n : ℕ) (xs : List A) → AllByRecursion P xs → AllByRecursion P (take n xs)
all_take P zero xs all = tt
all_take P (suc n) [] all = tt
all_take P (suc n) (x ∷ xs) all = (all.0, all_take P n xs all.1)

-- a recorded write stays where more bytes are written
write_stays : (w b : List ℕ) (span : WriteSpan) → IsBelow (length w) span → write_of (w ++ b) span ≡ write_of w span
write_stays w b span below =
    ap (write_with span.at)
    (ap (take span.len) (drop-append-le span.from w b (omega (arith, below))) ∙ take-append-le span.len (drop span.from w) b (omega (arith, below, length-drop span.from w)))

writes_stay : (w b : List ℕ) (size : ℕ) (spans : List WriteSpan) → AllByRecursion (IsSpan (length w) size) spans → map (write_of (w ++ b)) spans ≡ map (write_of w) spans
writes_stay w b size [] all = refl
writes_stay w b size (span ∷ spans) all = λ i. write_stays w b span all.0.below i ∷ writes_stay w b size spans all.1 i

event_stays : (w b : List ℕ) (c : DiskCall) → CallIsBelow (length w) c → event_of (w ++ b) c ≡ event_of w c
event_stays w b (call.Read done) below = refl
event_stays w b (call.Write span done) below = ap (WasWritten done) (write_stays w b span below)
event_stays w b (call.Sync done) below = refl

events_stay : (es : List DiskEvent) (w b : List ℕ) (cs : List DiskCall) → AllByRecursion (CallIsBelow (length w)) cs → events_on es (w ++ b) cs ≡ events_on es w cs
events_stay es w b [] all = refl
events_stay es w b (c ∷ cs) all = ap (λ e. events_on (e ∷ es) (w ++ b) cs) (event_stays w b c all.0) ∙ events_stay (event_of w c ∷ es) w b cs all.1

pub length-events_on : (es : List DiskEvent) (w : List ℕ) (cs : List DiskCall) → length (events_on es w cs) ≡ length es + length cs
length-events_on es w [] = omega arith
length-events_on es w (c ∷ cs) = omega (arith, length-events_on (event_of w c ∷ es) w cs)

-- one call more
pub events_push : (es : List DiskEvent) (w : List ℕ) (cs : List DiskCall) (c : DiskCall) → events_on es w (cs ++ c ∷ []) ≡ event_of w c ∷ events_on es w cs
events_push es w [] c = refl
events_push es w (x ∷ cs) c = events_push (event_of w x ∷ es) w cs c

-- the write that was recorded last
new_write : (w b : List ℕ) (span : WriteSpan) → span.from ≡ length w → span.len ≡ length b → write_of (w ++ b) span ≡ write_with span.at b
new_write w b span from len = ap (write_with span.at) (ap (take span.len) (drop_at w b span.from (sym from)) ∙ take_all span.len b (omega (arith, len)))

pub events_write : (w b : List ℕ) (cs : List DiskCall) (span : WriteSpan) (done : Bool) → AllByRecursion (CallIsBelow (length w)) cs → span.from ≡ length w → span.len ≡ length b
    → events_on [] (w ++ b) (cs ++ call.Write span done ∷ []) ≡ WasWritten done (write_with span.at b) ∷ events_on [] w cs
events_write w b cs span done all from len =
    events_push [] (w ++ b) cs (call.Write span done) ∙ (λ i. WasWritten done (new_write w b span from len i) ∷ events_stay [] w b cs all i)

pub events_read : (w : List ℕ) (cs : List DiskCall) (done : Bool) → events_on [] w (cs ++ call.Read done ∷ []) ≡ WasRead ∷ events_on [] w cs
events_read w cs done = events_push [] w cs (call.Read done)

pub events_sync : (w : List ℕ) (cs : List DiskCall) (done : Bool) → events_on [] w (cs ++ call.Sync done ∷ []) ≡ WasSynced done ∷ events_on [] w cs
events_sync w cs done = events_push [] w cs (call.Sync done)

-- the recorded calls are of bytes that were written, also where more are written
pub calls_push : (w : List ℕ) (cs : List DiskCall) (c : DiskCall) → AllByRecursion (CallIsBelow (length w)) cs → CallIsBelow (length w) c → AllByRecursion (CallIsBelow (length w)) (cs ++ c ∷ [])
calls_push w cs c all here = all_push (CallIsBelow (length w)) cs c all here

below_more : (m n : ℕ) (c : DiskCall) → m ≤ n → CallIsBelow m c → CallIsBelow n c
below_more m n (call.Read done) more below = tt
below_more m n (call.Write span done) more below = omega (arith, below)
below_more m n (call.Sync done) more below = tt

pub calls_write : (w b : List ℕ) (cs : List DiskCall) (span : WriteSpan) (done : Bool) → AllByRecursion (CallIsBelow (length w)) cs → span.from ≡ length w → span.len ≡ length b
    → AllByRecursion (CallIsBelow (length (w ++ b))) (cs ++ call.Write span done ∷ [])
calls_write w b cs span done all from len =
    let long : length (w ++ b) ≡ length w + length b = length-append w b in
    all_push (CallIsBelow (length (w ++ b))) cs (call.Write span done)
    (all_if (CallIsBelow (length w)) (CallIsBelow (length (w ++ b))) cs (λ c below. below_more (length w) (length (w ++ b)) c (omega arith) below) all)
    (omega (arith, from, len))

-- what is kept beside the record goes on agreeing with it after a write
pub agrees_write : (stored : Stored) (p y w b : List ℕ) (spans : List WriteSpan) (span : WriteSpan) → Agrees stored p y w spans → span.from ≡ length w → span.len ≡ length b → span.at + length b ≤ length p
    → Agrees (after_pending true (write_with span.at b) stored) (overlaid span.at b p) y (w ++ b) (spans ++ span ∷ [])
agrees_write stored p y w b spans span agrees from len within =
    let long : length (w ++ b) ≡ length w + length b = length-append w b in
    let same : length (overlaid span.at b p) ≡ length p = length-overlaid span.at b p within in
    let here : IsSpan (length (w ++ b)) (length (overlaid span.at b p)) span = record { below = omega (arith, from, len); within = omega (arith, len) } in
    let more : (s : WriteSpan) → IsSpan (length w) (length p) s → IsSpan (length (w ++ b)) (length (overlaid span.at b p)) s =
    λ s is. record { below = omega (arith, is.below); within = omega (arith, is.within) } in
    record {
      present = ap (overlaid span.at b) agrees.present;
      synced = agrees.synced;
      pending = map-append (write_of (w ++ b)) spans (span ∷ []) ∙ (λ i. (writes_stay w b (length p) spans agrees.each ∙ agrees.pending) i ++ new_write w b span from len i ∷ []);
      as_long = agrees.as_long ∙ sym same;
      each = all_push _ spans span (all_if _ _ spans more agrees.each) here;
    }

-- and after one that failed
pub agrees_failed : (stored : Stored) (p y w b : List ℕ) (spans : List WriteSpan) (span : WriteSpan) → Agrees stored p y w spans → span.from ≡ length w → span.len ≡ length b → span.at + length b ≤ length p
    → Agrees (after_pending false (write_with span.at b) stored) p y (w ++ b) (spans ++ span ∷ [])
agrees_failed stored p y w b spans span agrees from len within =
    let long : length (w ++ b) ≡ length w + length b = length-append w b in
    let here : IsSpan (length (w ++ b)) (length p) span = record { below = omega (arith, from, len); within = omega (arith, len) } in
    let more : (s : WriteSpan) → IsSpan (length w) (length p) s → IsSpan (length (w ++ b)) (length p) s =
    λ s is. record { below = omega (arith, is.below); within = is.within } in
    record {
      present = agrees.present;
      synced = agrees.synced;
      pending = map-append (write_of (w ++ b)) spans (span ∷ []) ∙ (λ i. (writes_stay w b (length p) spans agrees.each ∙ agrees.pending) i ++ new_write w b span from len i ∷ []);
      as_long = agrees.as_long;
      each = all_push _ spans span (all_if _ _ spans more agrees.each) here;
    }

-- and after a sync
pub agrees_sync : (stored : Stored) (p y w : List ℕ) (spans : List WriteSpan) → Agrees stored p y w spans → Agrees (after_sync true stored) p p w []
agrees_sync stored p y w spans agrees = record { present = agrees.present; synced = agrees.present; pending = refl; as_long = refl; each = tt }

-- The writes are within so many bytes.
abbrev IsWithin : ℕ → DiskWrite → Type 0
IsWithin size write = write.at + length write.bytes ≤ size

writes_within : (w : List ℕ) (size : ℕ) (spans : List WriteSpan) → AllByRecursion (IsSpan (length w) size) spans → AllByRecursion (IsWithin size) (map (write_of w) spans)
writes_within w size [] all = tt
writes_within w size (span ∷ spans) all =
    (omega (arith, all.0.below, all.0.within, length-take-le span.len (drop span.from w) (omega (arith, all.0.below, length-drop span.from w))), writes_within w size spans all.1)

-- contents that no write tore are reached
reaches_same : (writes : List DiskWrite) (c : List ℕ) → WritesReach c writes c
reaches_same [] c = refl
reaches_same (write ∷ writes) c = (c, torn_same write.at (length write.bytes) c, reaches_same writes c)

-- what one write more reaches, it reaches from what the others did
pub reaches_push : (writes : List DiskWrite) (write : DiskWrite) (from c : List ℕ) → WritesReach from (writes ++ write ∷ []) c → (d : List ℕ) × WritesReach from writes d × Torn write.at (length write.bytes) d c
reaches_push [] write from c (d, torn, is) = (from, refl, subst (Torn write.at (length write.bytes) from) (sym is) torn)
reaches_push (next ∷ writes) write from c (d, torn, rest) = let found = reaches_push writes write d c rest in (found.0, (d, torn, found.1), found.2)

-- writes that stand, the last of them torn, with others behind them of which nothing stands
reaches_torn : (writes rest : List DiskWrite) (from : List ℕ) → AllByRecursion (IsWithin (length from)) writes → WritesReach from (writes ++ rest) (torn_last writes from)
reaches_torn [] rest from all = reaches_same rest from
reaches_torn (write ∷ []) rest from all =
    let bytes = replicate (length write.bytes) 165 in
    let long : length bytes ≡ length write.bytes = length-replicate (length write.bytes) 165 in
    let torn : Torn write.at (length bytes) from (overlaid write.at bytes from) = torn_overlaid write.at bytes from (omega (arith, long, all.0)) in
    (overlaid write.at bytes from, subst (λ (n : ℕ). Torn write.at n from (overlaid write.at bytes from)) long torn, reaches_same rest (overlaid write.at bytes from))
reaches_torn (write ∷ next ∷ writes) rest from all =
    let mid = written_to write from in
    let long : length mid ≡ length from = length-overlaid write.at write.bytes from all.0 in
    (mid, torn_overlaid write.at write.bytes from all.0, reaches_torn (next ∷ writes) rest mid (subst (λ (n : ℕ). AllByRecursion (IsWithin n) (next ∷ writes)) (sym long) all.1))

-- the contents of a crashed copy are among those that a crash may leave
pub crashed_left : (kept : ℕ) (stored : Stored) (p y w : List ℕ) (spans : List WriteSpan) → Agrees stored p y w spans → MayLeave stored (crashed_at kept stored)
crashed_left kept stored p y w spans agrees =
    let size : length p ≡ length stored.synced = sym agrees.as_long ∙ ap length agrees.synced in
    let within : AllByRecursion (IsWithin (length stored.synced)) stored.pending =
    subst (λ (n : ℕ). AllByRecursion (IsWithin n) stored.pending) size (subst (AllByRecursion (IsWithin (length p))) agrees.pending (writes_within w (length p) spans agrees.each)) in
    inr (subst (λ (writes : List DiskWrite). WritesReach stored.synced writes (crashed_at kept stored)) (take-append-drop kept stored.pending)
    (reaches_torn (take kept stored.pending) (drop kept stored.pending) stored.synced (all_take (IsWithin (length stored.synced)) kept stored.pending within)))

-- which are those that the pending writes give
pub crashed_is : (kept first : ℕ) (stored : Stored) (p y w : List ℕ) (spans : List WriteSpan) → Agrees stored p y w spans → first ≡ min kept (length spans) → torn_last (map (write_of w) (take first spans)) y ≡ crashed_at kept stored
crashed_is kept first stored p y w spans agrees is =
    let front : map (write_of w) (take first spans) ≡ take kept stored.pending =
    ap (λ (n : ℕ). map (write_of w) (take n spans)) is ∙ ap (map (write_of w)) (take_min kept spans) ∙ sym (take-map (write_of w) kept spans) ∙ ap (take kept) agrees.pending in
    λ i. torn_last (front i) (agrees.synced i)

-- time goes on by a recorded call, and doesn't by one that isn't recorded
pub elapses_event : (start : List ℕ) (event : DiskEvent) (events : List DiskEvent) → Elapses (length events) (suc (length events)) (LeftSince start events) (LeftSince start (event ∷ events)) (MayLeave (stored_after start (event ∷ events)))
elapses_event start event events = record {
  later = omega arith;
  nothing_else = λ t c le left. swapped t c left;
  keeps = λ t c le left. inr (le, left);
}
  where
    swapped : (t : ℕ) (c : List ℕ) → LeftSince start (event ∷ events) t c → LeftSince start events t c ⊎ MayLeave (stored_after start (event ∷ events)) c
    swapped t c (inl now) = inr now
    swapped t c (inr past) = inl past.1

pub elapses_same : (start : List ℕ) (events : List DiskEvent) → Elapses (length events) (length events) (LeftSince start events) (LeftSince start events) (MayLeave (stored_after start events))
elapses_same start events = record { later = omega arith; nothing_else = λ t c le left. inl left; keeps = λ t c le left. left }

-- and so it does for what a read might have given
pub shows_event : (start : List ℕ) (event : DiskEvent) (events : List DiskEvent) → Elapses (length events) (suc (length events)) (ShownSince start events) (ShownSince start (event ∷ events)) (λ c. Some (stored_after start (event ∷ events)).present ≡ Some c)
shows_event start event events = record {
  later = omega arith;
  nothing_else = λ t c le shown. swapped t c shown;
  keeps = λ t c le shown. inr (le, shown);
}
  where
    swapped : (t : ℕ) (c : List ℕ) → ShownSince start (event ∷ events) t c → ShownSince start events t c ⊎ (Some (stored_after start (event ∷ events)).present ≡ Some c)
    swapped t c (inl now) = inr (ap (λ (all : List ℕ). Some all) (sym now))
    swapped t c (inr past) = inl past.1

pub shows_same : (start : List ℕ) (events : List DiskEvent) → Elapses (length events) (length events) (ShownSince start events) (ShownSince start events) (λ c. Some (stored_after start events).present ≡ Some c)
shows_same start events = record { later = omega arith; nothing_else = λ t c le shown. inl shown; keeps = λ t c le shown. shown }

-- the last of some writes is torn, and each before it is made
pub torn_one : (w : List ℕ) (span : WriteSpan) (spans : List WriteSpan) (all : List ℕ) → IsBelow (length w) span → length spans ≡ 0 → torn_last (map (write_of w) (span ∷ spans)) all ≡ overlaid span.at (replicate span.len 165) all
torn_one w span [] all below none = ap (λ (n : ℕ). overlaid span.at (replicate n 165) all) (length-take-le span.len (drop span.from w) (omega (arith, below, length-drop span.from w)))
torn_one w span (next ∷ spans) all below none = absurd (omega (arith, none))

pub torn_next : (w : List ℕ) (span : WriteSpan) (spans : List WriteSpan) (all : List ℕ) → 0 < length spans → torn_last (map (write_of w) (span ∷ spans)) all ≡ torn_last (map (write_of w) spans) (written_to (write_of w span) all)
torn_next w span [] all more = absurd (omega (arith, more))
torn_next w span (next ∷ spans) all more = refl
