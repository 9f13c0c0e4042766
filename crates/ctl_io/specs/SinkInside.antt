-- Bytes that are written to a sink piece by piece.
use Rattle.std.specs.Prelude.{◌≡◌, ℕ, List, ◌++◌, Option}
use Rattle.ctl_io.specs.Sink.{appended}

-- Of these bytes all but the rest were appended.
pub record Given (bytes rest : List ℕ) (before now : Option (List ℕ)) : Type 0 where
  pub given : List ℕ
  pub split : given ++ rest ≡ bytes
  pub appends : now ≡ appended before given
