-- What a source gives, and what it has left.
use Rattle.std.specs.Prelude.{◌≡◌, ℕ, ◌<◌, ◌≤◌, Bool, true, false, List, [], length, take, drop, Option, IfSome}
use Rattle.std.specs.Option.{option_map}
use Rattle.ctl_io.specs.declared.source.Read.{Read}
use Rattle.ctl_io.specs.declared.source.Read.TheVariants.{Got, End, Failed}

-- how many bytes a read gave
abbrev pub got : Read → ℕ
got (Got n) = n
got End = 0
got Failed = 0

-- whether a read failed
abbrev pub read_failed : Read → Bool
read_failed (Got n) = false
read_failed End = false
read_failed Failed = true

-- A read that gives bytes gives at least one, and no more than there is room for.
abbrev pub IsWithin : Read → ℕ → Type 0
IsWithin (Got n) room = (0 < n) × (n ≤ room)
IsWithin End room = Unit {0}
IsWithin Failed room = Unit {0}

-- what is left of what a source shows, behind its next n bytes
abbrev pub behind : ℕ → Option (List ℕ) → Option (List ℕ)
behind n left = option_map (drop n) left

-- Where a source shows what it has left, its next n bytes are the first n of these.
abbrev pub AreNext : ℕ → List ℕ → Option (List ℕ) → Type 0
AreNext n bytes left = IfSome left (λ all. take n bytes ≡ take n all)

-- Where a source shows what it has left, that is these bytes.
abbrev pub AreLeft : List ℕ → Option (List ℕ) → Type 0
AreLeft bytes left = IfSome left (λ all. bytes ≡ all)

-- Where a source shows what it has left, that is nothing.
abbrev pub IsAtEnd : Option (List ℕ) → Type 0
IsAtEnd left = IfSome left (λ all. all ≡ [])

-- At most so many bytes were taken from a source.
pub record TakesAtMost (most : ℕ) (before now : Option (List ℕ)) : Type 0 where
  pub count : ℕ
  pub within : count ≤ most
  pub takes : now ≡ behind count before

-- Exactly so many bytes were taken from a source, which had as many.
pub record TakesJust (count : ℕ) (before now : Option (List ℕ)) : Type 0 where
  pub had : IfSome before (λ all. count ≤ length all)
  pub takes : now ≡ behind count before
