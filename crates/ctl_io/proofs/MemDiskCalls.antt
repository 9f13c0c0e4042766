-- Disks in memory: what becomes of one by a call.
use Rattle.std.proofs.Common.{◌≡◌, ℕ, ◌+◌, ◌≤◌, nat_lt, nat_le, Bool, true, false, not, ◌&&◌, if◌then◌else◌, List, [], ◌∷◌, ◌++◌, length, Vec, vec_capacity, sym, ◌∙◌, ap, subst, arith, length-append}
use Rattle.std.specs.declared.alloc.Global.{Global}
use Rattle.std.specs.List.{AllByRecursion}
use Rattle.ctl_io.specs.Calls.{Calls, next_fails, called}
use Rattle.ctl_io.specs.Disk.{overlaid}
use Rattle.ctl_io.specs.declared.disk.Did.TheVariants.{Done, Failed}
use Rattle.ctl_io.specs.DiskPast.{DiskWrite, DiskEvent, Stored, after_pending, after_sync, after_event, stored_after}
use Rattle.ctl_io.specs.MemDisk.{DiskState, has_room, fails_when, disk_answer, recorded_when}
use Rattle.ctl_io.specs.MemDiskInside.{event_of, events_on, stored_in, CallIsBelow, Agrees, IsKept, disk_state}
use Rattle.ctl_io.specs.declared.memory.disk_call.WriteSpan.{WriteSpan}
use Rattle.ctl_io.specs.declared.memory.disk_call.DiskCall.{DiskCall}
use Rattle.ctl_io.specs.declared.memory.disk_call.DiskCall.TheVariants as call
use Rattle.ctl_io.specs.declared.memory.mem_disk.MemDisk.TheInside.{Inside}
use Rattle.ctl_io.proofs.MemDiskLemmas.{length-events_on, events_push, events_write, calls_push, calls_write, agrees_write, agrees_failed, agrees_sync}

-- as many calls are recorded as the record has
pub length-record : (w : List ℕ) (cs : List DiskCall) → length (events_on [] w cs) ≡ length cs
length-record w cs = omega (arith, length-events_on [] w cs)

-- whether there is room for a call, by the fields
pub room_is : (i : Inside) (n : ℕ) → (nat_lt (length i.calls.items) (vec_capacity i.calls) && nat_le (length i.written.items + n) (vec_capacity i.written)) ≡ has_room n (disk_state i)
room_is i n = ap (λ (k : ℕ). nat_lt k (vec_capacity i.calls) && nat_le (length i.written.items + n) (vec_capacity i.written)) (sym (length-record i.written.items i.calls.items))

module _ (d : DiskState) (n : ℕ) (listed room : Bool) (is_listed : listed ≡ next_fails d.calls) (is_room : room ≡ has_room n d) where
  answered : (if fails_when listed room then Failed else Done) ≡ disk_answer n d
  answered = λ k. if fails_when (is_listed k) (is_room k) then Failed else Done

  -- what a call answers: one that there is no room to record, one that is listed, and every other one
  pub answer_full : room ≡ false → Failed ≡ disk_answer n d
  answer_full full = sym (ap (λ (r : Bool). if fails_when listed r then Failed else Done) full) ∙ answered

  pub answer_listed : room ≡ true → listed ≡ true → Failed ≡ disk_answer n d
  answer_listed fits fails = sym (λ k. if fails_when (fails k) (fits k) then Failed else Done) ∙ answered

  pub answer_done : room ≡ true → listed ≡ false → Done ≡ disk_answer n d
  answer_done fits works = sym (λ k. if fails_when (works k) (fits k) then Failed else Done) ∙ answered

  -- the disk after a call that there is no room to record
  pub after_full : (new : DiskState) (e : Bool → DiskEvent) → room ≡ false → new ≡ record d { calls = new.calls } → new.calls ≡ called (fails_when listed room) d.calls
      → new ≡ recorded_when (next_fails d.calls) (has_room n d) (e (not (next_fails d.calls))) n d
  after_full new e full same is =
      let base : new ≡ recorded_when listed false (e (not listed)) n d = same ∙ (λ k. record d { calls = (is ∙ ap (λ (r : Bool). called (fails_when listed r) d.calls) full) k }) in
      base ∙ ap (λ (r : Bool). recorded_when listed r (e (not listed)) n d) (sym full ∙ is_room) ∙ ap (λ (l : Bool). recorded_when l (has_room n d) (e (not l)) n d) is_listed

  -- and after one that is recorded
  pub after_recorded : (new : DiskState) (e : Bool → DiskEvent) → room ≡ true → new.start ≡ d.start → new.events ≡ e (not listed) ∷ d.events → new.written ≡ d.written + n → new.calls_room ≡ d.calls_room → new.bytes_room ≡ d.bytes_room
      → new.calls ≡ called (fails_when listed room) d.calls → new ≡ recorded_when (next_fails d.calls) (has_room n d) (e (not (next_fails d.calls))) n d
  after_recorded new e fits start events written calls_room bytes_room is =
      let base : new ≡ recorded_when listed true (e (not listed)) n d =
      λ k. record {
        start = start k;
        events = events k;
        written = written k;
        calls_room = calls_room k;
        bytes_room = bytes_room k;
        calls = (is ∙ ap (λ (r : Bool). called (fails_when listed r) d.calls) fits) k;
      } in
      base ∙ ap (λ (r : Bool). recorded_when listed r (e (not listed)) n d) (sym fits ∙ is_room) ∙ ap (λ (l : Bool). recorded_when l (has_room n d) (e (not l)) n d) is_listed

-- what is kept beside the record agrees with it after a recorded call that changes nothing
pub kept_same : (i : Inside) (calls : Vec DiskCall Global) (count : Calls) (c : DiskCall) → IsKept i → calls.items ≡ i.calls.items ++ c ∷ [] → vec_capacity calls ≡ vec_capacity i.calls → CallIsBelow (length i.written.items) c
    → after_event (event_of i.written.items c) (stored_in i) ≡ stored_in i → IsKept (record i { calls = calls; count = count })
kept_same i calls count c kept items room below same =
    let w = i.written.items in
    let stored : stored_after i.start.items (events_on [] w calls.items) ≡ stored_in i =
    ap (λ (cs : List DiskCall). stored_after i.start.items (events_on [] w cs)) items ∙ ap (stored_after i.start.items) (events_push [] w i.calls.items c) ∙ same in
    record {
      agrees = subst (λ (s : Stored). Agrees s i.present.items i.synced.items w i.pending.items) (sym stored) kept.agrees;
      calls = subst (AllByRecursion (CallIsBelow (length w))) (sym items) (calls_push w i.calls.items c kept.calls below);
      few = omega (arith, kept.few, ap length items, length-append i.calls.items (c ∷ []));
      room = kept.room ∙ sym room;
    }

-- after a sync that was done
pub kept_sync : (i : Inside) (synced : Vec ℕ Global) (calls : Vec DiskCall Global) (pending : Vec WriteSpan Global) (count : Calls) (done : Bool) → done ≡ true → IsKept i → synced.items ≡ i.present.items
    → calls.items ≡ i.calls.items ++ call.Sync done ∷ [] → vec_capacity calls ≡ vec_capacity i.calls → pending.items ≡ [] → vec_capacity pending ≡ vec_capacity i.pending
    → IsKept (record i { synced = synced; calls = calls; pending = pending; count = count })
kept_sync i synced calls pending count done is_done kept synced_is items room none pending_room =
    let w = i.written.items in
    let stored : stored_after i.start.items (events_on [] w calls.items) ≡ after_sync true (stored_in i) =
    ap (λ (cs : List DiskCall). stored_after i.start.items (events_on [] w cs)) items ∙ ap (stored_after i.start.items) (events_push [] w i.calls.items (call.Sync done)) ∙ ap (λ (b : Bool). after_sync b (stored_in i)) is_done in
    let agrees : Agrees (after_sync true (stored_in i)) i.present.items i.present.items w [] = agrees_sync (stored_in i) i.present.items i.synced.items w i.pending.items kept.agrees in
    record {
      agrees = rw (synced_is, none, stored) agrees;
      calls = subst (AllByRecursion (CallIsBelow (length w))) (sym items) (calls_push w i.calls.items (call.Sync done) kept.calls tt);
      few = omega (arith, ap length none);
      room = pending_room ∙ kept.room ∙ sym room;
    }

-- after a write that was done
pub kept_write : (i : Inside) (present written : Vec ℕ Global) (calls : Vec DiskCall Global) (pending : Vec WriteSpan Global) (count : Calls) (span : WriteSpan) (bytes : List ℕ) (done : Bool) → done ≡ true → IsKept i
    → span.from ≡ length i.written.items → span.len ≡ length bytes → span.at + length bytes ≤ length i.present.items
    → present.items ≡ overlaid span.at bytes i.present.items → written.items ≡ i.written.items ++ bytes → calls.items ≡ i.calls.items ++ call.Write span done ∷ [] → vec_capacity calls ≡ vec_capacity i.calls
    → pending.items ≡ i.pending.items ++ span ∷ [] → vec_capacity pending ≡ vec_capacity i.pending
    → IsKept (record i { present = present; calls = calls; pending = pending; written = written; count = count })
kept_write i present written calls pending count span bytes done is_done kept from len within present_is written_is items room pending_is pending_room =
    let w = i.written.items in
    let write : DiskWrite = record { at = span.at; bytes = bytes } in
    let stored : stored_after i.start.items (events_on [] (w ++ bytes) (i.calls.items ++ call.Write span done ∷ [])) ≡ after_pending true write (stored_in i) =
    ap (stored_after i.start.items) (events_write w bytes i.calls.items span done kept.calls from len) ∙ ap (λ (b : Bool). after_pending b write (stored_in i)) is_done in
    let agrees = agrees_write (stored_in i) i.present.items i.synced.items w bytes i.pending.items span kept.agrees from len within in
    record {
      agrees = rw (present_is, written_is, items, pending_is, stored) agrees;
      calls = rw (written_is, items) (calls_write w bytes i.calls.items span done kept.calls from len);
      few = omega (arith, kept.few, ap length items, ap length pending_is, length-append i.calls.items (call.Write span done ∷ []), length-append i.pending.items (span ∷ []));
      room = pending_room ∙ kept.room ∙ sym room;
    }

-- after a write that failed
pub kept_failed : (i : Inside) (written : Vec ℕ Global) (calls : Vec DiskCall Global) (pending : Vec WriteSpan Global) (count : Calls) (span : WriteSpan) (bytes : List ℕ) (done : Bool) → done ≡ false → IsKept i
    → span.from ≡ length i.written.items → span.len ≡ length bytes → span.at + length bytes ≤ length i.present.items
    → written.items ≡ i.written.items ++ bytes → calls.items ≡ i.calls.items ++ call.Write span done ∷ [] → vec_capacity calls ≡ vec_capacity i.calls
    → pending.items ≡ i.pending.items ++ span ∷ [] → vec_capacity pending ≡ vec_capacity i.pending
    → IsKept (record i { calls = calls; pending = pending; written = written; count = count })
kept_failed i written calls pending count span bytes done is_failed kept from len within written_is items room pending_is pending_room =
    let w = i.written.items in
    let write : DiskWrite = record { at = span.at; bytes = bytes } in
    let stored : stored_after i.start.items (events_on [] (w ++ bytes) (i.calls.items ++ call.Write span done ∷ [])) ≡ after_pending false write (stored_in i) =
    ap (stored_after i.start.items) (events_write w bytes i.calls.items span done kept.calls from len) ∙ ap (λ (b : Bool). after_pending b write (stored_in i)) is_failed in
    let agrees = agrees_failed (stored_in i) i.present.items i.synced.items w bytes i.pending.items span kept.agrees from len within in
    record {
      agrees = rw (written_is, items, pending_is, stored) agrees;
      calls = rw (written_is, items) (calls_write w bytes i.calls.items span done kept.calls from len);
      few = omega (arith, kept.few, ap length items, ap length pending_is, length-append i.calls.items (call.Write span done ∷ []), length-append i.pending.items (span ∷ []));
      room = pending_room ∙ kept.room ∙ sym room;
    }
