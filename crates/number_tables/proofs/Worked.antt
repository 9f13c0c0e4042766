-- The least of some numbers computed by hand.
use Rattle.std.proofs.Common.{◌≡◌, [], ◌∷◌, Some, None, refl}
use Rattle.number_tables.specs.Numbers.{least}

least_of_none : least [] ≡ None
least_of_none = refl

least_of_some : least (5 ∷ 3 ∷ 65535 ∷ []) ≡ Some 3
least_of_some = refl
