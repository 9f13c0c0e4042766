-- Counts of faults over several calls.
use Rattle.std.proofs.Common.{ℕ, ◌<◌, ◌≤◌, ◌^◌, Bool, true, false, arith}
use Rattle.ctl_io.specs.Faults.{count_after, Rose}

-- a call that failed raised the count
pub rose_counted : (before : ℕ) → Rose before (count_after true before)
rose_counted before = omega arith

-- no call lowers it
pub count_never_falls : (failed : Bool) (before : ℕ) → before ≤ count_after failed before
count_never_falls true before = omega arith
count_never_falls false before = omega arith

-- no call takes it out of its type
pub count_within : (failed : Bool) (before : ℕ) → before < 2 ^ 64 → count_after failed before < 2 ^ 64
count_within true before within = omega arith
count_within false before within = within

-- what rose has risen also after later calls
pub rose_then : (before mid now : ℕ) → Rose before mid → mid ≤ now → Rose before now
rose_then before mid now rose later = omega arith

pub then_rose : (before mid now : ℕ) → before ≤ mid → Rose mid now → Rose before now
then_rose before mid now earlier rose = omega arith
