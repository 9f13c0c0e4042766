-- A list with places.
use Rattle.std.specs.Prelude.{ℕ, List}

-- what stands in a box, in order, and how many places it has
pub record Placed (A : Type 0) : Type 0 where
  pub items : List A
  pub places : ℕ
