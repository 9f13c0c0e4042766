-- What was written to a sink.
use Rattle.std.specs.Prelude.{◌≡◌, IfSome, ℕ, [], ◌<◌, ◌≤◌, Bool, true, false, List, ◌++◌, length, take, Option, Some, None}
use Rattle.ctl_io.specs.declared.sink.Write.{Write}
use Rattle.ctl_io.specs.declared.sink.Write.TheVariants.{Took, Failed}

-- how many bytes a write appended
abbrev pub took : Write → ℕ
took (Took n) = n
took Failed = 0

-- whether a write failed
abbrev pub write_failed : Write → Bool
write_failed (Took n) = false
write_failed Failed = true

-- A write that takes bytes takes at least one, and no more than it was given.
abbrev pub TakesWithin : Write → ℕ → Type 0
TakesWithin (Took n) given = (0 < n) × (n ≤ given)
TakesWithin Failed given = Unit {0}

-- what a sink shows that was written to it, with these bytes behind it
abbrev pub appended : Option (List ℕ) → List ℕ → Option (List ℕ)
appended None bytes = None
appended (Some before) bytes = Some (before ++ bytes)

-- Where a sink shows what was written to it, that is nothing.
abbrev pub IsUnwritten : Option (List ℕ) → Type 0
IsUnwritten written = IfSome written (λ all. all ≡ [])

-- A front of the bytes was appended that is shorter than they are.
pub record AppendsPart (bytes : List ℕ) (before now : Option (List ℕ)) : Type 0 where
  pub count : ℕ
  pub shorter : count < length bytes
  pub appends : now ≡ appended before (take count bytes)
