-- Which device protects each destination, and what a device may change of it.
use Rattle.std.specs.Prelude.{◌≡◌, ◌≢◌, ℕ, ◌==◌, Bool, true, false, ◌||◌, if◌then◌else◌, Some}
use Rattle.std.specs.Option.{option_map_or}
use Rattle.std.specs.Ordering.{nat_cmp}
use Rattle.std.specs.FinMap.{FinMap, get, insert, remove, code}
use Rattle.std.specs.Coded.{Coded, coded_ℕ}

-- the device that protects each destination; one that isn't in the map is unprotected
abbrev pub Owners : Type 0
Owners = FinMap nat_cmp ℕ

-- owners are stored as the list of their entries
abbrev pub owners_code : Coded Owners
owners_code = code {R = nat_cmp} coded_ℕ coded_ℕ

-- whether a destination is unprotected or the device's own
abbrev pub allows : Owners → ℕ → ℕ → Bool
allows owners device dest = option_map_or (λ owner. owner == device) (get owners dest) true

-- Another device protects the destination.
pub record IsForeign (owners : Owners) (device dest : ℕ) : Type 0 where
  pub owner : ℕ
  pub owns : get owners dest ≡ Some owner
  pub other : owner ≢ device

-- A protect makes a device the owner where it is allowed, and else changes nothing.
abbrev pub taken : Owners → ℕ → ℕ → Owners
taken owners device dest = if allows owners device dest then insert owners dest device else owners

-- whether a device may lift the protect of a destination: a master may lift any
abbrev pub may_lift : Owners → ℕ → Bool → ℕ → Bool
may_lift owners device master dest = master || allows owners device dest

-- Another device protects the destination, and the asker is no master.
pub record IsKeptFrom (owners : Owners) (device : ℕ) (master : Bool) (dest : ℕ) : Type 0 where
  pub no_master : master ≡ false
  pub is_foreign : IsForeign owners device dest

-- A lift leaves the destination unprotected where it is allowed, and else changes nothing.
abbrev pub lifted : Owners → ℕ → Bool → ℕ → Owners
lifted owners device master dest =
    if may_lift owners device master dest then remove owners dest else owners
