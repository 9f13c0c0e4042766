-- What files handed out and took back.
use Rattle.std.specs.Prelude.{◌≡◌, ℕ, ◌+◌, ◌-◌, List, [], ◌∷◌, ◌++◌, Option, None}
use Rattle.std.specs.Option.{option_map}
use Rattle.ctl_io.specs.DiskPast.{DiskPast}
use Rattle.ctl_io.specs.declared.files.Found.{Found}
use Rattle.ctl_io.specs.declared.files.Found.TheVariants as found
use Rattle.ctl_io.specs.declared.files.Made.{Made}
use Rattle.ctl_io.specs.declared.files.Made.TheVariants as made

-- The objects of one kind that were handed out: how many are still out, and, where it is shown, what those that were given
-- back showed, in order.
pub record Custody (Shown : Type 0) : Type 0 where
  pub out : ℕ
  pub back : Option (List Shown)

-- so many are out, and what is given back isn't shown
abbrev pub only_out : {Shown : Type 0} → ℕ → Custody Shown
only_out count = record { out = count; back = None }

-- one more was handed out
abbrev pub lent : {Shown : Type 0} → Custody Shown → Custody Shown
lent custody = record { out = custody.out + 1; back = custody.back }

-- one that showed this was given back
abbrev pub returned : {Shown : Type 0} → Shown → Custody Shown → Custody Shown
returned shown custody = record {
  out = custody.out - 1;
  back = option_map (λ back. back ++ shown ∷ []) custody.back;
}

-- what a source shows when it is given back: the name of its file, what it has left, and its count of faults
pub record SourceEnd : Type 0 where
  pub name : Option (List ℕ)
  pub left : Option (List ℕ)
  pub faults : ℕ

-- what a sink shows when it is given back: the name of its file, what was written, and its count of faults
pub record SinkEnd : Type 0 where
  pub name : Option (List ℕ)
  pub written : Option (List ℕ)
  pub faults : ℕ

-- what a disk shows when it is given back: the name of its file, its past, and its count of faults
pub record DiskEnd : Type 0 where
  pub name : Option (List ℕ)
  pub past : Option DiskPast
  pub faults : ℕ

-- the sources, the sinks and the disks of files
pub record FilesCustody : Type 0 where
  pub sources : Custody SourceEnd
  pub sinks : Custody SinkEnd
  pub disks : Custody DiskEnd

-- the custody after a source was asked for
abbrev pub source_lent : {S : Type 0} → Found S → FilesCustody → FilesCustody
source_lent (found.Here source) custody = record custody { sources = lent custody.sources }
source_lent other custody = custody

-- the custody after a sink was asked for
abbrev pub sink_lent : {K : Type 0} → Made K → FilesCustody → FilesCustody
sink_lent (made.Here sink) custody = record custody { sinks = lent custody.sinks }
sink_lent made.Failed custody = custody

-- the custody after a disk was asked for
abbrev pub disk_lent : {D : Type 0} → Found D → FilesCustody → FilesCustody
disk_lent (found.Here disk) custody = record custody { disks = lent custody.disks }
disk_lent other custody = custody

-- a source, a sink, or a disk, that shows so much was given back
abbrev pub TakesSource : Option (List ℕ) → Option (List ℕ) → ℕ → FilesCustody
    → FilesCustody → Type 0
TakesSource name left faults before now = now ≡ record before {
  sources = returned (record { name = name; left = left; faults = faults }) before.sources;
}

abbrev pub TakesSink : Option (List ℕ) → Option (List ℕ) → ℕ → FilesCustody → FilesCustody
    → Type 0
TakesSink name written faults before now = now ≡ record before {
  sinks = returned (record { name = name; written = written; faults = faults }) before.sinks;
}

abbrev pub TakesDisk : Option (List ℕ) → Option DiskPast → ℕ → FilesCustody → FilesCustody
    → Type 0
TakesDisk name past faults before now = now ≡ record before {
  disks = returned (record { name = name; past = past; faults = faults }) before.disks;
}
