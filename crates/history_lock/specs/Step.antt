-- What a request does to a machine.
use Rattle.std.specs.Prelude.{List}

-- the state that a request leaves, and its answers in order
pub record Stepped (State Answer : Type 0) : Type 0 where
  pub state : State
  pub answers : List Answer
