-- How a destination comes under another head.
use Rattle.std.specs.Prelude.{◌≡◌, ◌≢◌, ◌↔◌, ℕ, length, Option}
use Rattle.tap_lists.specs.Lists.{Lists, IsUnder, IsLoose, IsHeadOf}

-- The lists have as many heads and members, and every other member is under the head under which it was.
pub record LeavesOthers (old new : Lists) (dest : ℕ) : Type 0 where
  pub heads : length new.by_head ≡ length old.by_head
  pub members : new.members ≡ old.members
  pub others : (head at : ℕ) → at ≢ dest → IsUnder new head at ↔ IsUnder old head at

-- A destination is under no head now.
pub record Loosens (old new : Lists) (dest : ℕ) : Type 0 where
  pub loose : IsLoose new dest
  pub leaves : LeavesOthers old new dest

-- A destination is under this head now, or under none.
pub record Moves (old new : Lists) (dest : ℕ) (head : Option ℕ) : Type 0 where
  pub here : IsHeadOf new dest head
  pub leaves : LeavesOthers old new dest
