-- The laws, by the owner of each destination.
use Rattle.std.proofs.Common.{◌≡◌, ◌≢◌, ℕ, ◌==◌, Bool, true, false, cond, Some, None, inl, inr, refl, ap, subst, ◌∙◌}
use Rattle.std.proofs.lemmas.Bool.{cases_eq, ne_eqb}
use Rattle.std.specs.Option.{option_map_or}
use Rattle.std.specs.FinMap.{get, insert, remove}
use Rattle.number_tables.proofs.PutLemmas.{get-put_same, get-put_other}
use Rattle.protects.specs.Owners.{Owners, allows, taken, may_lift, lifted, IsForeign}
use Rattle.protects.specs.Laws.{OthersKeepOwners, CallsChangeOne, ForeignProtectsStay, ProtectsAreOwned, LiftsFree}

-- where another device protects the destination
allows-foreign : (owners : Owners) (device dest : ℕ) → IsForeign owners device dest → allows owners device dest ≡ false
allows-foreign owners device dest is =
    ap (λ found. option_map_or (λ owner. owner == device) found true) is.owns ∙ ne_eqb is.owner device is.other

OthersStay-taken : (owners : Owners) (device dest : ℕ) → OthersKeepOwners owners (taken owners device dest) dest
OthersStay-taken owners device dest = λ other apart.
    elim (allows owners device dest) as (λ b. get (cond b (insert owners dest device) owners) other ≡ get owners other) [
      | true ↦ get-put_other owners dest (Some device) other apart
      | false ↦ refl
    ]

OthersStay-lifted : (owners : Owners) (device : ℕ) (master : Bool) (dest : ℕ) → OthersKeepOwners owners (lifted owners device master dest) dest
OthersStay-lifted owners device master dest = λ other apart.
    elim (may_lift owners device master dest) as (λ b. get (cond b (remove owners dest) owners) other ≡ get owners other) [
      | true ↦ get-put_other owners dest None other apart
      | false ↦ refl
    ]

pub CallsChangeOne-at : (owners : Owners) (device dest : ℕ) → CallsChangeOne owners device dest
CallsChangeOne-at owners device dest = record {
  take = OthersStay-taken owners device dest;
  lift = λ master. OthersStay-lifted owners device master dest;
}

-- a refused call changes nothing
refused_taken : (owners : Owners) (device dest : ℕ) → allows owners device dest ≡ false → taken owners device dest ≡ owners
refused_taken owners device dest refused = ap (λ b. cond b (insert owners dest device) owners) refused

refused_lifted : (owners : Owners) (device dest : ℕ) → allows owners device dest ≡ false → lifted owners device false dest ≡ owners
refused_lifted owners device dest refused = ap (λ b. cond b (remove owners dest) owners) refused

-- where a call changes only a destination of another owner, and is refused there, the owner stays
stays : (owners : Owners) (dest owner device at : ℕ) (new : Owners) → get owners dest ≡ Some owner → owner ≢ device → OthersKeepOwners owners new at → (allows owners device at ≡ false → new ≡ owners) → get new dest ≡ Some owner
stays owners dest owner device at new owns other others refused =
    elim (cases_eq dest at) [
      | inl same ↦
          let foreign : IsForeign owners device at = record { owner = owner; owns = subst (λ d. get owners d ≡ Some owner) same owns; other = other } in
          ap (λ (x : Owners). get x dest) (refused (allows-foreign owners device at foreign)) ∙ owns
      | inr apart ↦ others dest apart ∙ owns
    ]

pub ForeignProtectsStay-all : (owners : Owners) → ForeignProtectsStay owners
ForeignProtectsStay-all owners = λ dest owner device owns other. record {
  take = λ at. stays owners dest owner device at (taken owners device at) owns other (OthersStay-taken owners device at) (refused_taken owners device at);
  lift = λ at. stays owners dest owner device at (lifted owners device false at) owns other (OthersStay-lifted owners device false at) (refused_lifted owners device at);
}

pub ProtectsAreOwned-all : (owners : Owners) → ProtectsAreOwned owners
ProtectsAreOwned-all owners = λ device dest allowed.
    ap (λ b. get (cond b (insert owners dest device) owners) dest) allowed ∙ get-put_same owners dest (Some device)

pub LiftsFree-at : (owners : Owners) (device dest : ℕ) → LiftsFree owners device dest
LiftsFree-at owners device dest = record {
  master = get-put_same owners dest None;
  own = λ allowed. ap (λ b. get (cond b (remove owners dest) owners) dest) allowed ∙ get-put_same owners dest None;
}
