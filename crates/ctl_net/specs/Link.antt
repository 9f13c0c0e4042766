-- What a link gives where it is read.
use Rattle.std.specs.Prelude.{◌≡◌, IfSome, ℕ, ◌<◌, ◌≤◌, Bool, true, false, List, [], ◌∷◌, ◌++◌, take}
use Rattle.std.specs.Option.{option_map}
use Rattle.ctl_io.specs.Faults.{count_after}
use Rattle.ctl_io.specs.ReadHalf.{ReadHalf, Reading}
use Rattle.ctl_io.specs.Source.{behind}
use Rattle.ctl_net.specs.declared.link.LinkRead.{LinkRead}
use Rattle.ctl_net.specs.declared.link.LinkRead.TheVariants.{Got, Idle, End, Failed}

-- how many bytes a read gave
abbrev pub given : LinkRead → ℕ
given (Got n) = n
given Idle = 0
given End = 0
given Failed = 0

-- whether a read failed
abbrev pub link_read_failed : LinkRead → Bool
link_read_failed (Got n) = false
link_read_failed Idle = false
link_read_failed End = false
link_read_failed Failed = true

-- whether a read was idle
abbrev pub was_idle : LinkRead → Bool
was_idle (Got n) = false
was_idle Idle = true
was_idle End = false
was_idle Failed = false

-- A read that gives bytes gives at least one, and no more than there is room for.
abbrev pub GivesWithin : LinkRead → ℕ → Type 0
GivesWithin (Got n) room = (0 < n) × (n ≤ room)
GivesWithin Idle room = Unit {0}
GivesWithin End room = Unit {0}
GivesWithin Failed room = Unit {0}

-- the reads so far and one more with so much room, which gave these bytes
abbrev pub with_reading : ℕ → List ℕ → List Reading → List Reading
with_reading room bytes reads = reads ++ record { room = room; bytes = bytes } ∷ []

-- the reads that are told after one more with so much room, which left `into` so: one that gave bytes or was idle is told
abbrev pub told_after : LinkRead → ℕ → List ℕ → List Reading → List Reading
told_after (Got n) room into reads = with_reading room (take n into) reads
told_after Idle room into reads = with_reading room [] reads
told_after End room into reads = reads
told_after Failed room into reads = reads

-- the read half after a read with so much room, which left `into` so
abbrev pub after_link_read : LinkRead → ℕ → List ℕ → ReadHalf → ReadHalf
after_link_read answer room into half = record {
  left = behind (given answer) half.left;
  reads = option_map (told_after answer room into) half.reads;
  faults = count_after (link_read_failed answer) half.faults;
  idles = count_after (was_idle answer) half.idles;
}

-- Nothing was read and no read was idle or failed, as far as it is shown.
pub record IsUnread (half : ReadHalf) : Type 0 where
  pub reads : IfSome half.reads (λ all. all ≡ [])
  pub faults : half.faults ≡ 0
  pub idles : half.idles ≡ 0
