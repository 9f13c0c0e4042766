-- What files show, and what they answer where a source, a sink or a disk is asked for.
use Rattle.std.specs.Prelude.{◌≡◌, ℕ, Bool, true, false, List, Option, IfSome, replicate}
use Rattle.ctl_io.specs.Custody.{FilesCustody}
use Rattle.ctl_io.specs.DiskPast.{DiskPast}
use Rattle.ctl_io.specs.Held.{Held, HeldOf}
use Rattle.ctl_io.specs.declared.files.Found.{Found}
use Rattle.ctl_io.specs.declared.files.Found.TheVariants as found
use Rattle.ctl_io.specs.declared.files.Made.{Made}
use Rattle.ctl_io.specs.declared.files.Made.TheVariants as made

-- What files show: what they hold of each name as a source, and as a disk, for each of its openings from now, where they show it;
-- what they handed out and took back; and how often a call failed or an object with faults was given back.
pub record FilesData : Type 0 where
  pub held : List ℕ → ℕ → Held
  pub disks : List ℕ → ℕ → HeldOf DiskPast
  pub custody : FilesCustody
  pub faults : ℕ

-- a fact of the source, or the disk, that is handed out
abbrev pub IfFound : {S : Type 0} → Found S → (S → Type 0) → Type 0
IfFound (found.Here source) P = P source
IfFound found.Missing P = Unit {0}
IfFound found.Failed P = Unit {0}

-- a fact of the sink that is handed out
abbrev pub IfMade : {K : Type 0} → Made K → (K → Type 0) → Type 0
IfMade (made.Here sink) P = P sink
IfMade made.Failed P = Unit {0}

-- whether the answer is that the call failed
abbrev pub find_failed : {S : Type 0} → Found S → Bool
find_failed (found.Here source) = false
find_failed found.Missing = false
find_failed found.Failed = true

abbrev pub make_failed : {K : Type 0} → Made K → Bool
make_failed (made.Here sink) = false
make_failed made.Failed = true

-- Where a disk shows its contents, they are so many zero bytes.
abbrev pub IsZeroed : ℕ → Option (List ℕ) → Type 0
IsZeroed size contents = IfSome contents (λ all. all ≡ replicate size 0)
