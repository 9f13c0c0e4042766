-- What becomes of the files where a disk of theirs is handed out and given back.
use Rattle.std.specs.Prelude.{◌≡◌, ℕ, List, length, Option, IfSome}
use Rattle.ctl_io.specs.Custody.{DiskEnd, lent, returned}
use Rattle.ctl_io.specs.DiskPast.{DiskPast, MayLeave, LeftSince, stored_since}
use Rattle.ctl_io.specs.Faults.{count_after, is_faulty, one_more}
use Rattle.ctl_io.specs.Held.{HeldOf, IfHeld, AllStayBut, IsNamed, MayBeMissing, OtherOpeningsStay}
use Rattle.command_rows.specs.Moment.{Snapshot}

-- what a disk shows, by what its type says of it
abbrev pub disk_end : {D : Type 0} → (D → Option (List ℕ)) → (D → Option DiskPast) → (D → ℕ)
    → D → DiskEnd
disk_end name past faults disk =
    record { name = name disk; past = past disk; faults = faults disk }

-- The openings of all other names stay, as sources and as disks.
pub record OthersStay (name : List ℕ) (before now : Snapshot) : Type 0 where
  pub held : OtherOpeningsStay name before.held now.held
  pub disks : OtherOpeningsStay name before.disks now.disks

-- The disk of this name was handed out, as it stood or made anew.
pub record LendsDisk (name : List ℕ) (before now : Snapshot) : Type 0 where
  pub others : OthersStay name before now
  pub custody : now.custody ≡ record before.custody { disks = lent before.custody.disks }
  pub faults : now.faults ≡ before.faults

-- The files failed, and none was handed out.
pub record FailsToLend (name : List ℕ) (before now : Snapshot) : Type 0 where
  pub others : OthersStay name before now
  pub custody : now.custody ≡ before.custody
  pub faults : now.faults ≡ one_more before.faults

-- There is no such disk, or the files don't show whether there is.
pub record MissesDisk (name : List ℕ) (before now : Snapshot) : Type 0 where
  pub missing : MayBeMissing (before.disks name 0)
  pub others : OthersStay name before now
  pub custody : now.custody ≡ before.custody
  pub faults : now.faults ≡ before.faults

-- A disk that shows so much was given back.
pub record TakesDiskBack (shown : DiskEnd) (before now : Snapshot) : Type 0 where
  pub held : AllStayBut shown.name before.held now.held
  pub disks : AllStayBut shown.name before.disks now.disks
  pub custody : now.custody
      ≡ record before.custody { disks = returned shown before.custody.disks }
  pub faults : now.faults ≡ count_after (is_faulty shown.faults) before.faults

-- The disk of this name was handed out, and what was given back for it shows this.
pub record GivesDisk (name : List ℕ) (Shows : DiskEnd → Type 0) (before now : Snapshot)
    : Type 0 where
  pub with : Snapshot
  pub lends : LendsDisk name before with
  pub shown : DiskEnd
  pub named : IsNamed name shown.name
  pub shows : Shows shown
  pub takes : TakesDiskBack shown with now

-- Each content that a crash of a disk may leave now has P, where the disk shows its past.
abbrev pub LeavesNow : Option DiskPast → (List ℕ → Type 0) → Type 0
LeavesNow shown P =
    IfSome shown (λ past. (c : List ℕ) → MayLeave (stored_since past) c → P c)

-- Each content that a crash at any moment since the disk was handed out might have left has P. It was handed out with this past.
abbrev pub LeavesSince : HeldOf DiskPast → Option DiskPast → (List ℕ → Type 0) → Type 0
LeavesSince held shown P = IfHeld held (λ first. IfSome shown
    (λ past. (c : List ℕ) → LeftSince past.start past.events (length first.events) c → P c))
