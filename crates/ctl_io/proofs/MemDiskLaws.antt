-- Disks in memory: that a recorded call does what the calls of a disk do.
use Rattle.std.proofs.Common.{◌≡◌, ◌⊎◌, inl, inr, ℕ, ◌+◌, ◌≤◌, Bool, true, false, not, if◌then◌else◌, List, [], ◌∷◌, ◌++◌, length, Some, refl, sym, ◌∙◌, ap, subst}
use Rattle.ctl_io.specs.Faults.{count_after}
use Rattle.ctl_io.specs.Calls.{next_fails}
use Rattle.ctl_io.specs.Disk.{did_fail, Torn}
use Rattle.ctl_io.specs.Crash.{Follows, LeavesNoMore, LeavesShown, Elapses}
use Rattle.ctl_io.specs.declared.disk.Did.{Did}
use Rattle.ctl_io.specs.declared.disk.Did.TheVariants.{Done, Failed}
use Rattle.ctl_io.specs.DiskPast.{DiskWrite, DiskEvent, WasRead, WasWritten, WasSynced, Stored, written_to, WritesReach, MayLeave, LeftSince, ShownSince}
use Rattle.ctl_io.specs.MemDisk.{DiskState, stored_by, has_room, fails_when, recorded_when, disk_answer, after_disk_read, after_disk_write, after_disk_sync}
use Rattle.ctl_io.proofs.DiskLemmas.{torn_overlaid, torn_same}
use Rattle.ctl_io.proofs.MemDiskLemmas.{reaches_push, elapses_event, elapses_same, shows_event, shows_same}

-- what is answered
abbrev did_when : (listed room : Bool) → Did
did_when listed room = if fails_when listed room then Failed else Done

did_if : (f : Bool) → did_fail (if f then Failed else Done) ≡ f
did_if true = refl
did_if false = refl

-- the count goes up by one exactly if the call failed
pub counts : (d new : DiskState) (n : ℕ) (e : DiskEvent) (did : Did) → new ≡ recorded_when (next_fails d.calls) (has_room n d) e n d → did ≡ disk_answer n d → new.calls.faults ≡ count_after (did_fail did) d.calls.faults
counts d new n e did is answer =
    let f = fails_when (next_fails d.calls) (has_room n d) in
    ap (λ (s : DiskState). s.calls.faults) is ∙ ap (λ (b : Bool). count_after b d.calls.faults) (sym (ap did_fail answer ∙ did_if f))

-- time goes on
pub elapses_when : (listed room : Bool) (e : DiskEvent) (n : ℕ) (d : DiskState) → Elapses (length d.events) (length (recorded_when listed room e n d).events)
    (LeftSince d.start d.events) (LeftSince (recorded_when listed room e n d).start (recorded_when listed room e n d).events) (MayLeave (stored_by (recorded_when listed room e n d)))
elapses_when listed true e n d = elapses_event d.start e d.events
elapses_when listed false e n d = elapses_same d.start d.events

pub shows_when : (listed room : Bool) (e : DiskEvent) (n : ℕ) (d : DiskState) → Elapses (length d.events) (length (recorded_when listed room e n d).events)
    (ShownSince d.start d.events) (ShownSince (recorded_when listed room e n d).start (recorded_when listed room e n d).events) (λ c. Some (stored_by (recorded_when listed room e n d)).present ≡ Some c)
shows_when listed true e n d = shows_event d.start e d.events
shows_when listed false e n d = shows_same d.start d.events

-- a read changes nothing
read_when : (listed room : Bool) (n : ℕ) (d : DiskState) → stored_by (recorded_when listed room WasRead n d) ≡ stored_by d
read_when listed true n d = refl
read_when listed false n d = refl

pub reads : (d : DiskState) → stored_by (after_disk_read d) ≡ stored_by d
reads d = read_when (next_fails d.calls) (has_room 0 d) 0 d

pub read_crash : (d : DiskState) → LeavesNoMore (MayLeave (stored_by d)) (MayLeave (stored_by (after_disk_read d)))
read_crash d = λ c left. subst (λ (s : Stored). MayLeave s c) (reads d) left

-- a write that is done puts its bytes
write_when : (listed room : Bool) (write : DiskWrite) (n : ℕ) (d : DiskState) → did_when listed room ≡ Done → (stored_by (recorded_when listed room (WasWritten (not listed) write) n d)).present ≡ written_to write (stored_by d).present
write_when true true write n d done = absurd (cc done)
write_when false true write n d done = refl
write_when true false write n d done = absurd (cc done)
write_when false false write n d done = absurd (cc done)

pub writes : (d : DiskState) (write : DiskWrite) (did : Did) → did ≡ disk_answer (length write.bytes) d → did ≡ Done → (stored_by (after_disk_write write d)).present ≡ written_to write (stored_by d).present
writes d write did answer done = write_when (next_fails d.calls) (has_room (length write.bytes) d) write (length write.bytes) d (sym answer ∙ done)

-- each write tears no more than its range
torn_when : (listed room : Bool) (write : DiskWrite) (n : ℕ) (d : DiskState) → write.at + length write.bytes ≤ length (stored_by d).present
    → Torn write.at (length write.bytes) (stored_by d).present (stored_by (recorded_when listed room (WasWritten (not listed) write) n d)).present
torn_when true true write n d within = torn_same _ _ _
torn_when false true write n d within = torn_overlaid write.at write.bytes (stored_by d).present within
torn_when true false write n d within = torn_same _ _ _
torn_when false false write n d within = torn_same _ _ _

pub tears : (d : DiskState) (write : DiskWrite) → write.at + length write.bytes ≤ length (stored_by d).present → Torn write.at (length write.bytes) (stored_by d).present (stored_by (after_disk_write write d)).present
tears d write within = torn_when (next_fails d.calls) (has_room (length write.bytes) d) write (length write.bytes) d within

-- a crash leaves what it might have left before, torn in the range of the write
follows_write : (done : Bool) (write : DiskWrite) (s : Stored) → Torn write.at (length write.bytes) s.present (if done then written_to write s.present else s.present)
    → (c : List ℕ) → (c ≡ (if done then written_to write s.present else s.present)) ⊎ WritesReach s.synced (s.pending ++ write ∷ []) c → (d : List ℕ) × MayLeave s d × Torn write.at (length write.bytes) d c
follows_write done write s torn c (inl is) = (s.present, inl refl, subst (Torn write.at (length write.bytes) s.present) (sym is) torn)
follows_write done write s torn c (inr reached) = let found = reaches_push s.pending write s.synced c reached in (found.0, inr found.1, found.2)

crash_when : (listed room : Bool) (write : DiskWrite) (n : ℕ) (d : DiskState) → write.at + length write.bytes ≤ length (stored_by d).present
    → Follows (Torn write.at (length write.bytes)) (MayLeave (stored_by d)) (MayLeave (stored_by (recorded_when listed room (WasWritten (not listed) write) n d)))
crash_when true true write n d within = λ c left. follows_write false write (stored_by d) (torn_same _ _ _) c left
crash_when false true write n d within = λ c left. follows_write true write (stored_by d) (torn_overlaid write.at write.bytes (stored_by d).present within) c left
crash_when listed false write n d within = λ c left. (c, left, torn_same _ _ _)

pub write_crash : (d : DiskState) (write : DiskWrite) → write.at + length write.bytes ≤ length (stored_by d).present → Follows (Torn write.at (length write.bytes)) (MayLeave (stored_by d)) (MayLeave (stored_by (after_disk_write write d)))
write_crash d write within = crash_when (next_fails d.calls) (has_room (length write.bytes) d) write (length write.bytes) d within

-- a sync changes no byte
sync_when : (listed room : Bool) (n : ℕ) (d : DiskState) → (stored_by (recorded_when listed room (WasSynced (not listed)) n d)).present ≡ (stored_by d).present
sync_when true true n d = refl
sync_when false true n d = refl
sync_when listed false n d = refl

pub syncs : (d : DiskState) → (stored_by (after_disk_sync d)).present ≡ (stored_by d).present
syncs d = sync_when (next_fails d.calls) (has_room 0 d) 0 d

-- after a sync that is done a crash leaves what a read gives
present_alone : (s : Stored) (c : List ℕ) → (c ≡ s.present) ⊎ (c ≡ s.present) → Some s.present ≡ Some c
present_alone s c (inl is) = ap (λ (l : List ℕ). Some l) (sym is)
present_alone s c (inr is) = ap (λ (l : List ℕ). Some l) (sym is)

durable_when : (listed room : Bool) (n : ℕ) (d : DiskState) → did_when listed room ≡ Done → LeavesShown (Some (stored_by d).present) (MayLeave (stored_by (recorded_when listed room (WasSynced (not listed)) n d)))
durable_when true true n d done = absurd (cc done)
durable_when false true n d done = λ c left. present_alone (stored_by d) c left
durable_when true false n d done = absurd (cc done)
durable_when false false n d done = absurd (cc done)

pub durable : (d : DiskState) (did : Did) → did ≡ disk_answer 0 d → did ≡ Done → LeavesShown (Some (stored_by d).present) (MayLeave (stored_by (after_disk_sync d)))
durable d did answer done = durable_when (next_fails d.calls) (has_room 0 d) 0 d (sym answer ∙ done)

-- and after each sync no more than before
stays : (s : Stored) (c : List ℕ) → (c ≡ s.present) ⊎ (c ≡ s.present) → MayLeave s c
stays s c (inl is) = inl is
stays s c (inr is) = inl is

sync_crash_when : (listed room : Bool) (n : ℕ) (d : DiskState) → LeavesNoMore (MayLeave (stored_by d)) (MayLeave (stored_by (recorded_when listed room (WasSynced (not listed)) n d)))
sync_crash_when true true n d = λ c left. left
sync_crash_when false true n d = λ c left. stays (stored_by d) c left
sync_crash_when listed false n d = λ c left. left

pub sync_crash : (d : DiskState) → LeavesNoMore (MayLeave (stored_by d)) (MayLeave (stored_by (after_disk_sync d)))
sync_crash d = sync_crash_when (next_fails d.calls) (has_room 0 d) 0 d
