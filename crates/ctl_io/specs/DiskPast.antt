-- What a disk holds, and what a crash leaves of it, from the bytes that it began with and the calls that were made of it.
use Rattle.std.specs.Prelude.{◌≡◌, ◌⊎◌, ℕ, ◌≤◌, Bool, true, false, List, [], ◌∷◌, ◌++◌, length, Option, Some, None, if◌then◌else◌}
use Rattle.std.proofs.Common.{inl, inr, refl, sym, ap, arith}
use Rattle.ctl_io.specs.Disk.{overlaid, Torn}

-- a write: its place and its bytes
pub record DiskWrite : Type 0 where
  pub at : ℕ
  pub bytes : List ℕ

-- A recorded call: a read, or a write or a sync that was done or failed.
pub data DiskEvent : Type 0 where
  WasRead : DiskEvent
  WasWritten : Bool → DiskWrite → DiskEvent
  WasSynced : Bool → DiskEvent

-- The bytes that a read gives, those that the last sync left, and the writes since then, the oldest first, also those that failed.
pub record Stored : Type 0 where
  pub present : List ℕ
  pub synced : List ℕ
  pub pending : List DiskWrite

-- contents with a write's bytes
abbrev pub written_to : DiskWrite → List ℕ → List ℕ
written_to write all = overlaid write.at write.bytes all

-- after a write that was done or failed
abbrev pub after_pending : Bool → DiskWrite → Stored → Stored
after_pending done write stored = record stored {
  present = if done then written_to write stored.present else stored.present;
  pending = stored.pending ++ write ∷ [];
}

-- after a sync that was done or failed
abbrev pub after_sync : Bool → Stored → Stored
after_sync true stored =
    record { present = stored.present; synced = stored.present; pending = [] }
after_sync false stored = stored

-- after one more call
abbrev pub after_event : DiskEvent → Stored → Stored
after_event WasRead stored = stored
after_event (WasWritten done write) stored = after_pending done write stored
after_event (WasSynced done) stored = after_sync done stored

-- what a disk that began with these bytes holds after these calls, the newest of which comes first
abbrev pub stored_after : List ℕ → List DiskEvent → Stored
stored_after start [] = record { present = start; synced = start; pending = [] }
stored_after start (event ∷ earlier) = after_event event (stored_after start earlier)

-- From these contents, each write in turn may leave any bytes in its range, and leaves the others.
abbrev pub WritesReach : List ℕ → List DiskWrite → List ℕ → Type 0
WritesReach from [] c = c ≡ from
WritesReach from (write ∷ writes) c =
    (d : List ℕ) × Torn write.at (length write.bytes) from d × WritesReach d writes c

-- A crash leaves what a read gives, or what the writes since the last sync reach.
abbrev pub MayLeave : Stored → List ℕ → Type 0
MayLeave stored c = (c ≡ stored.present) ⊎ WritesReach stored.synced stored.pending c

-- A crash behind one of these calls, of which the newest comes first, might have left this: behind all of them, or earlier, though not
-- before t of them were made.
abbrev pub LeftSince : List ℕ → List DiskEvent → ℕ → List ℕ → Type 0
LeftSince start [] t c = MayLeave (stored_after start []) c
LeftSince start (event ∷ earlier) t c =
    MayLeave (stored_after start (event ∷ earlier)) c
    ⊎ ((t ≤ length earlier) × LeftSince start earlier t c)

-- A read behind one of these calls, of which the newest comes first, might have given this: behind all of them, or earlier, though not
-- before t of them were made.
abbrev pub ShownSince : List ℕ → List DiskEvent → ℕ → List ℕ → Type 0
ShownSince start [] t c = c ≡ start
ShownSince start (event ∷ earlier) t c =
    (c ≡ (stored_after start (event ∷ earlier)).present)
    ⊎ ((t ≤ length earlier) × ShownSince start earlier t c)

-- the laws of a disk's clock, for a disk in memory
pub now_counts : (start : List ℕ) (events : List DiskEvent) (t : ℕ) (c : List ℕ)
    → MayLeave (stored_after start events) c → LeftSince start events t c
now_counts start [] t c left = left
now_counts start (event ∷ earlier) t c left = inl left

pub now_alone : (start : List ℕ) (events : List DiskEvent) (c : List ℕ)
    → LeftSince start events (length events) c → MayLeave (stored_after start events) c
now_alone start [] c left = left
now_alone start (event ∷ earlier) c (inl now) = now
now_alone start (event ∷ earlier) c (inr past) = absurd (omega (arith, past.0))

pub shows_now : (start : List ℕ) (events : List DiskEvent) (t : ℕ)
    → ShownSince start events t (stored_after start events).present
shows_now start [] t = refl
shows_now start (event ∷ earlier) t = inl refl

pub shows_alone : (start : List ℕ) (events : List DiskEvent) (c : List ℕ)
    → ShownSince start events (length events) c
    → Some (stored_after start events).present ≡ Some c
shows_alone start [] c is = ap (λ (all : List ℕ). Some all) (sym is)
shows_alone start (event ∷ earlier) c (inl is) = ap (λ (all : List ℕ). Some all) (sym is)
shows_alone start (event ∷ earlier) c (inr past) = absurd (omega (arith, past.0))

pub shown_left : (start : List ℕ) (events : List DiskEvent) (t : ℕ) (c : List ℕ)
    → ShownSince start events t c → LeftSince start events t c
shown_left start [] t c is = inl is
shown_left start (event ∷ earlier) t c (inl is) = inl (inl is)
shown_left start (event ∷ earlier) t c (inr past) =
    inr (past.0, shown_left start earlier t c past.1)

-- A disk's past: the bytes that it began with, and the calls that were made of it, the newest first.
pub record DiskPast : Type 0 where
  pub start : List ℕ
  pub events : List DiskEvent

-- what the disk holds after this past
abbrev pub stored_since : DiskPast → Stored
stored_since past = stored_after past.start past.events

-- A disk is what its past makes of it: a read gives what that left present, a crash leaves what the past may leave, and might have
-- left since a moment what the past might have left. The moment is the number of its calls.
pub record IsMade (past : DiskPast) (contents : Option (List ℕ)) (may_leave : List ℕ → Type 0)
    (moment : ℕ) (left_since : ℕ → List ℕ → Type 0) : Type 0 where
  pub present : contents ≡ Some (stored_since past).present
  pub counted : moment ≡ length past.events
  pub leaves : (c : List ℕ) → may_leave c → MayLeave (stored_since past) c
  pub no_less : (c : List ℕ) → MayLeave (stored_since past) c → may_leave c
  pub left : (t : ℕ) (c : List ℕ) → left_since t c → LeftSince past.start past.events t c
  pub no_less_left : (t : ℕ) (c : List ℕ) → LeftSince past.start past.events t c
      → left_since t c

-- A disk that shows its past is what that makes of it, and one that doesn't shows no contents.
abbrev pub IsMadeBy : Option DiskPast → Option (List ℕ) → (List ℕ → Type 0) → ℕ
    → (ℕ → List ℕ → Type 0) → Type 0
IsMadeBy None contents may_leave moment left_since = contents ≡ None
IsMadeBy (Some past) contents may_leave moment left_since =
    IsMade past contents may_leave moment left_since

-- What reads might have given since a moment is what the past makes of it.
pub record IsShownBy (past : DiskPast) (shown_since : ℕ → List ℕ → Type 0) : Type 0 where
  pub shown : (t : ℕ) (c : List ℕ) → shown_since t c → ShownSince past.start past.events t c
  pub no_less : (t : ℕ) (c : List ℕ) → ShownSince past.start past.events t c
      → shown_since t c

-- Where a disk shows its past, that makes what reads might have given.
abbrev pub IsShownSo : Option DiskPast → (ℕ → List ℕ → Type 0) → Type 0
IsShownSo None shown_since = Unit {0}
IsShownSo (Some past) shown_since = IsShownBy past shown_since
