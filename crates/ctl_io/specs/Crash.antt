-- What a crash leaves of a disk, at each moment.
use Rattle.std.specs.Prelude.{◌≡◌, ◌⊎◌, ◌≤◌, ℕ, List, Option, Some}

-- Each content that a crash may leave now is one that it might have left before, after a step.
abbrev pub Follows : (List ℕ → List ℕ → Type 0) → (List ℕ → Type 0) → (List ℕ → Type 0)
    → Type 0
Follows step before now = (c : List ℕ) → now c → (d : List ℕ) × before d × step d c

-- Each content that a crash may leave now is one that it might have left before.
abbrev pub LeavesNoMore : (List ℕ → Type 0) → (List ℕ → Type 0) → Type 0
LeavesNoMore before now = (c : List ℕ) → now c → before c

-- A crash leaves what the disk shows and nothing else.
abbrev pub LeavesShown : Option (List ℕ) → (List ℕ → Type 0) → Type 0
LeavesShown shown may_leave = (c : List ℕ) → may_leave c → shown ≡ Some c

-- Time goes on in a call: a crash since t might have left what it might have left before, or what it may leave now.
pub record Elapses (before now : ℕ) (past since : ℕ → List ℕ → Type 0)
    (may_leave : List ℕ → Type 0) : Type 0 where
  pub later : before ≤ now
  pub nothing_else : (t : ℕ) (c : List ℕ) → t ≤ before → since t c
      → past t c ⊎ may_leave c
  pub keeps : (t : ℕ) (c : List ℕ) → t ≤ before → past t c → since t c

-- A crash at any moment since the old disk leaves contents that have P. For a run that began earlier: what a crash might
-- have left since then it might have left of the old disk, or it has P.
pub record LeavesOnly {D : Type 0} (moment : D → ℕ) (left_since : D → ℕ → List ℕ → Type 0)
    (old new : D) (P : List ℕ → Type 0) : Type 0 where
  pub later : moment old ≤ moment new
  pub each : (c : List ℕ) → left_since new (moment old) c → P c
  pub before : (t : ℕ) (c : List ℕ) → t ≤ moment old → left_since new t c
      → left_since old t c ⊎ P c
