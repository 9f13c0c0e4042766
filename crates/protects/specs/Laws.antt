-- What is true of all owners, said by which device protects each destination.
use Rattle.std.specs.Prelude.{◌≡◌, ◌≢◌, ℕ, Bool, true, false, Some, None}
use Rattle.std.specs.FinMap.{get}
use Rattle.protects.specs.Owners.{Owners, allows, taken, lifted}

-- Every destination but this one is protected as before.
abbrev pub OthersKeepOwners : Owners → Owners → ℕ → Type 0
OthersKeepOwners old new dest = (other : ℕ) → other ≢ dest → get new other ≡ get old other

-- A protect and a lift change no destination but their own.
pub record CallsChangeOne (owners : Owners) (device dest : ℕ) : Type 0 where
  pub take : OthersKeepOwners owners (taken owners device dest) dest
  pub lift : (master : Bool) → OthersKeepOwners owners (lifted owners device master dest) dest

-- What a device protects it goes on protecting, whatever a device protects, and whatever one lifts that is no master's.
pub record ForeignProtectStays (owners : Owners) (dest owner device : ℕ) : Type 0 where
  pub take : (at : ℕ) → get (taken owners device at) dest ≡ Some owner
  pub lift : (at : ℕ) → get (lifted owners device false at) dest ≡ Some owner

-- Each destination that one device protects is out of another one's reach.
abbrev pub ForeignProtectsStay : Owners → Type 0
ForeignProtectsStay owners = (dest owner device : ℕ) → get owners dest ≡ Some owner
    → owner ≢ device → ForeignProtectStays owners dest owner device

-- A protect that is allowed makes its device the owner.
abbrev pub ProtectsAreOwned : Owners → Type 0
ProtectsAreOwned owners = (device dest : ℕ) → allows owners device dest ≡ true
    → get (taken owners device dest) dest ≡ Some device

-- A lift that is allowed leaves no owner, and a master's always is.
pub record LiftsFree (owners : Owners) (device dest : ℕ) : Type 0 where
  pub master : get (lifted owners device true dest) dest ≡ None
  pub own : allows owners device dest ≡ true
      → get (lifted owners device false dest) dest ≡ None
