-- What a link over a connection has been given: what the connection has, and what is unsent.
use Rattle.std.specs.Prelude.{◌≡◌, ℕ, List, [], Option, take}
use Rattle.std.specs.Io.KnownBytes.{append_known, Keeps, Consumes, IsAtEnd}
use Rattle.ctl_net.specs.Link.{given}
use Rattle.ctl_net.specs.declared.link.LinkRead.{LinkRead}
use Rattle.ctl_net.specs.declared.link.LinkRead.TheVariants.{End}

-- what a connection shows that it was given, with the unsent bytes behind it
abbrev pub given_to : {S : Type 0} → (S → Option (List ℕ)) → S → List ℕ → Option (List ℕ)
given_to contents stream unsent = append_known (contents stream) unsent

-- A connection was read once all that it was given had been sent: it stood so (`at`), with just these bytes given to it, and the
-- read took what it gave from what was left there.
pub record ReadsBehind {S : Type 0} (contents remaining : S → Option (List ℕ))
    (before : Option (List ℕ)) (now : S) (answer : LinkRead) (into : List ℕ) : Type 0 where
  pub at : S
  pub sent : Keeps before (contents at)
  pub gave : Consumes (remaining at) (remaining now) (take (given answer) into)
  pub ended : answer ≡ End → IsAtEnd (remaining now)
