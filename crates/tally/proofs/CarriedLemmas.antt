-- What a destination carries.
use Rattle.std.proofs.Common.{◌≡◌, ℕ, nat_eq, true, Option, Some, None, ap, eqb-true}
use Rattle.std.specs.Option.{option_eq}

-- what is carried is the origin that is found
pub carried_is : (found : Option ℕ) (origin : ℕ) → option_eq nat_eq found (Some origin) ≡ true → found ≡ Some origin
carried_is None origin same = cc
carried_is (Some other) origin same = ap Some (eqb-true other origin same)
