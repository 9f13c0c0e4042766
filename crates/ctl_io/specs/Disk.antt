-- What the calls of a disk do to its contents.
use Rattle.std.specs.Prelude.{◌≡◌, ℕ, ◌+◌, Bool, true, false, List, ◌++◌, length, take, drop, Option, Some, None, IfSome}
use Rattle.std.specs.Option.{option_map}
use Rattle.ctl_io.specs.declared.disk.Did.{Did}
use Rattle.ctl_io.specs.declared.disk.Did.TheVariants.{Done, Failed}

-- whether a call of a disk failed
abbrev pub did_fail : Did → Bool
did_fail Done = false
did_fail Failed = true

-- contents with these bytes from a place on
abbrev pub overlaid : ℕ → List ℕ → List ℕ → List ℕ
overlaid at bytes all = take at all ++ (bytes ++ drop (at + length bytes) all)

-- the contents that a disk shows, with these bytes from a place on
abbrev pub shown_with : ℕ → List ℕ → Option (List ℕ) → Option (List ℕ)
shown_with at bytes shown = option_map (overlaid at bytes) shown

-- Where a disk shows its contents, these bytes stand in them from a place on.
abbrev pub AreAt : ℕ → List ℕ → Option (List ℕ) → Type 0
AreAt at bytes shown = IfSome shown (λ all. bytes ≡ take (length bytes) (drop at all))

-- In a range of n bytes the new contents may have any, and the others are those of the old ones.
pub record Torn (at n : ℕ) (old new : List ℕ) : Type 0 where
  pub before : take at new ≡ take at old
  pub after : drop (at + n) new ≡ drop (at + n) old
  pub as_long : length new ≡ length old

-- A disk shows its contents now exactly if it did before, and then they are torn in the range.
abbrev pub ShowsTorn : ℕ → ℕ → Option (List ℕ) → Option (List ℕ) → Type 0
ShowsTorn at n None None = Unit {0}
ShowsTorn at n None (Some new) = ⊥
ShowsTorn at n (Some old) None = ⊥
ShowsTorn at n (Some old) (Some new) = Torn at n old new
