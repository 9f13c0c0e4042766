-- Who may protect and lift, and what protects keep.
use Rattle.std.proofs.Common.{◌≡◌, ◌≢◌, ℕ, Bool, true, false, cond, ◌||◌, Option, Some, None, IsSome, inl, inr, refl, sym, ap, subst, ◌∙◌}
use Rattle.std.specs.Option.{option_and_then}
use Rattle.std.specs.Ordering.{nat_cmp, eq_by_cmp}
use Rattle.std.specs.Cmp.{nat_cmp_total, unsigned_tied}
use Rattle.std.specs.FinMap as finite
use Rattle.std.proofs.lemmas.Bool.{eq-eqb, ne_eqb}
use Rattle.swp08_messages.specs.declared.point.Point.{Point}
use Rattle.swp08_messages.specs.declared.message.Message.TheVariants.{ProtectConnect, ProtectDisconnect, ProtectTally, ProtectConnected, ProtectDisconnected}
use Rattle.protects.specs.Owners.{Owners, allows, may_lift, taken, lifted}
use Rattle.plant_core.specs.declared.request.Request.TheVariants.{Told}
use Rattle.plant_core.specs.State.{State, IsValid, owner_at, device_of, is_master}
use Rattle.plant_core.specs.Connects.{says}
use Rattle.plant_core.specs.Protecting.{owner_told, with_owners, protected, unprotected}
use Rattle.plant_core.specs.Step.{step, dest_of}
use Rattle.plant_core.specs.Laws.{IsFree}
use Rattle.plant_core.specs.ProtectLaws.{TellsOwner, HasOwner, IsOwnedNow, IsProtected, IsLifted, IsRefused, MayLift}
use Rattle.plant_core.proofs.Steps.{owner_at-dest, free-dest, dest-free}

tied_self : (dest : ℕ) → eq_by_cmp nat_cmp dest dest ≡ true
tied_self dest = unsigned_tied dest dest ∙ eq-eqb dest dest refl

tied_other : (q dest : ℕ) → q ≢ dest → eq_by_cmp nat_cmp q dest ≡ false
tied_other q dest other = unsigned_tied q dest ∙ ne_eqb q dest other

-- what a take and a lift leave
get-taken : (owners : Owners) (device dest : ℕ) → allows owners device dest ≡ true → finite.get (taken owners device dest) dest ≡ Some device
get-taken owners device dest allowed =
    ap (λ b. finite.get (cond b (finite.insert owners dest device) owners) dest) allowed
    ∙ finite.get-insert nat_cmp_total owners dest device dest ∙ ap (λ b. cond b (Some device) (finite.get owners dest)) (tied_self dest)

pub taken_other : (owners : Owners) (device dest q : ℕ) → q ≢ dest → finite.get (taken owners device dest) q ≡ finite.get owners q
taken_other owners device dest q other =
    elim (allows owners device dest) as (λ b. finite.get (cond b (finite.insert owners dest device) owners) q ≡ finite.get owners q) [
      | true ↦ finite.get-insert nat_cmp_total owners dest device q ∙ ap (λ b. cond b (Some device) (finite.get owners q)) (tied_other q dest other)
      | false ↦ refl
    ]

get-lifted : (owners : Owners) (device : ℕ) (master : Bool) (dest : ℕ) → may_lift owners device master dest ≡ true → finite.get (lifted owners device master dest) dest ≡ None
get-lifted owners device master dest may =
    ap (λ b. finite.get (cond b (finite.remove owners dest) owners) dest) may
    ∙ finite.get-remove nat_cmp_total owners dest dest ∙ ap (λ b. cond b None (finite.get owners dest)) (tied_self dest)

pub lifted_other : (owners : Owners) (device : ℕ) (master : Bool) (dest q : ℕ) → q ≢ dest → finite.get (lifted owners device master dest) q ≡ finite.get owners q
lifted_other owners device master dest q other =
    elim (may_lift owners device master dest) as (λ b. finite.get (cond b (finite.remove owners dest) owners) q ≡ finite.get owners q) [
      | true ↦ finite.get-remove nat_cmp_total owners dest q ∙ ap (λ b. cond b None (finite.get owners q)) (tied_other q dest other)
      | false ↦ refl
    ]

-- a tally tells the owner of its place
tells : (at : Point) (owner : Option ℕ) → TellsOwner ProtectTally at owner (owner_told ProtectTally at owner)
tells at None = refl
tells at (Some device) = refl

pub has-owner : (state : State) (at : Point) (owner : Option ℕ) → owner_at state at ≡ owner → HasOwner state at owner
has-owner state at owner h panel item = (
  owner_told ProtectTally at (owner_at state at),
  refl,
  subst (λ (o : Option ℕ). TellsOwner ProtectTally at o (owner_told ProtectTally at (owner_at state at))) h (tells at (owner_at state at)),
)

refused : (state : State) (at : Point) (owner : Option ℕ) → owner_at state at ≡ owner → IsRefused state at (says state (owner_told ProtectTally at owner))
refused state at owner h = record {
  told = owner_told ProtectTally at owner;
  answer = refl;
  owner = subst (λ (o : Option ℕ). TellsOwner ProtectTally at o (owner_told ProtectTally at owner)) (sym h) (tells at owner);
  state = refl;
}

owned_now : (state : State) (panel : ℕ) (at : Point) (dest : ℕ) (owners : Owners) (owner : Option ℕ) → dest_of state at ≡ Some dest → finite.get owners dest ≡ owner → ((q : ℕ) → q ≢ dest → finite.get owners q ≡ finite.get state.owners q) →
    IsOwnedNow state at owner (with_owners state panel dest owners)
owned_now state panel at dest owners owner found h others = record {
  owned = has-owner (with_owners state panel dest owners) at owner (ap (option_and_then (finite.get owners)) found ∙ h);
  others = λ q elsewhere. others q (λ same. elsewhere (found ∙ ap Some (sym same)));
  crosspoints = refl;
  groups = refl;
}

-- protects
protected-by : (state : State) (panel : ℕ) (at : Point) (dest : ℕ) (b : Bool) → dest_of state at ≡ Some dest → allows state.owners (device_of state.plant panel) dest ≡ b →
    protected state panel at (dest_of state at)
    ≡ cond b (says (with_owners state panel dest (taken state.owners (device_of state.plant panel) dest)) (owner_told ProtectConnected at (Some (device_of state.plant panel)))) (says state (owner_told ProtectTally at (finite.get state.owners dest)))
protected-by state panel at dest b found allowed =
    ap (protected state panel at) found
    ∙ ap (λ b. cond b (says (with_owners state panel dest (taken state.owners (device_of state.plant panel) dest)) (owner_told ProtectConnected at (Some (device_of state.plant panel)))) (says state (owner_told ProtectTally at (finite.get state.owners dest)))) allowed

pub protect-IsProtected : (state : State) (panel item device : ℕ) (at : Point) → IsValid state → IsFree state panel at → IsProtected state panel at (step state (Told panel item (ProtectConnect at device)))
protect-IsProtected state panel item device at valid free =
    let is = free-dest state panel at free in
    let dest : ℕ = is.0 in
    let own : ℕ = device_of state.plant panel in
    subst (IsProtected state panel at) (sym (protected-by state panel at dest true is.1 is.2)) (record {
      answer = refl;
      now = owned_now state panel at dest (taken state.owners own dest) (Some own) is.1 (get-taken state.owners own dest is.2) (taken_other state.owners own dest);
    })

pub protect-IsRefused : (state : State) (panel item device : ℕ) (at : Point) → ¬ IsFree state panel at → IsRefused state at (step state (Told panel item (ProtectConnect at device)))
protect-IsRefused state panel item device at not = go (dest_of state at) refl
  where
    by_allows : (dest : ℕ) → dest_of state at ≡ Some dest → (b : Bool) → allows state.owners (device_of state.plant panel) dest ≡ b → IsRefused state at (protected state panel at (dest_of state at))
    by_allows dest found true allowed = absurd (not (dest-free state panel at dest found allowed))
    by_allows dest found false kept = subst (IsRefused state at) (sym (protected-by state panel at dest false found kept)) (refused state at (finite.get state.owners dest) (owner_at-dest state at dest found))

    go : (o : Option ℕ) → dest_of state at ≡ o → IsRefused state at (protected state panel at (dest_of state at))
    go None none = subst (IsRefused state at) (sym (ap (protected state panel at) none)) (refused state at None (ap (option_and_then (finite.get state.owners)) none))
    go (Some dest) found = by_allows dest found (allows state.owners (device_of state.plant panel) dest) refl

-- lifts
or_true : (b c : Bool) → c ≡ true → (b || c) ≡ true
or_true true c h = refl
or_true false c h = h

lift-dest : (state : State) (panel : ℕ) (at : Point) → MayLift state panel at → (dest : ℕ) × (dest_of state at ≡ Some dest) × (may_lift state.owners (device_of state.plant panel) (is_master state.plant panel) dest ≡ true)
lift-dest state panel at (inl free) =
    let is = free-dest state panel at free in
    (is.0, is.1, or_true (is_master state.plant panel) (allows state.owners (device_of state.plant panel) is.0) is.2)
lift-dest state panel at (inr master) = go (dest_of state at) refl master.0
  where
    go : (o : Option ℕ) → dest_of state at ≡ o → IsSome o → (dest : ℕ) × (dest_of state at ≡ Some dest) × (may_lift state.owners (device_of state.plant panel) (is_master state.plant panel) dest ≡ true)
    go None found some = cc
    go (Some dest) found some = (dest, found, ap (λ b. b || allows state.owners (device_of state.plant panel) dest) master.1)

dest-lift : (state : State) (panel : ℕ) (at : Point) (dest : ℕ) → dest_of state at ≡ Some dest → may_lift state.owners (device_of state.plant panel) (is_master state.plant panel) dest ≡ true → MayLift state panel at
dest-lift state panel at dest found may = go (is_master state.plant panel) refl
  where
    go : (b : Bool) → is_master state.plant panel ≡ b → MayLift state panel at
    go true master = inr (rw found refl, master)
    go false mere = inl (dest-free state panel at dest found (sym (ap (λ b. b || allows state.owners (device_of state.plant panel) dest) mere) ∙ may))

unprotected-by : (state : State) (panel : ℕ) (at : Point) (dest : ℕ) (b : Bool) → dest_of state at ≡ Some dest → may_lift state.owners (device_of state.plant panel) (is_master state.plant panel) dest ≡ b →
    unprotected state panel at (dest_of state at)
    ≡ cond b (says (with_owners state panel dest (lifted state.owners (device_of state.plant panel) (is_master state.plant panel) dest)) (owner_told ProtectDisconnected at None)) (says state (owner_told ProtectTally at (finite.get state.owners dest)))
unprotected-by state panel at dest b found may =
    ap (unprotected state panel at) found
    ∙ ap (λ b. cond b (says (with_owners state panel dest (lifted state.owners (device_of state.plant panel) (is_master state.plant panel) dest)) (owner_told ProtectDisconnected at None)) (says state (owner_told ProtectTally at (finite.get state.owners dest)))) may

pub lift-IsLifted : (state : State) (panel item device : ℕ) (at : Point) → IsValid state → MayLift state panel at → IsLifted state at (step state (Told panel item (ProtectDisconnect at device)))
lift-IsLifted state panel item device at valid may =
    let is = lift-dest state panel at may in
    let dest : ℕ = is.0 in
    let own : ℕ = device_of state.plant panel in
    let master : Bool = is_master state.plant panel in
    subst (IsLifted state at) (sym (unprotected-by state panel at dest true is.1 is.2)) (record {
      answer = refl;
      now = owned_now state panel at dest (lifted state.owners own master dest) None is.1 (get-lifted state.owners own master dest is.2) (lifted_other state.owners own master dest);
    })

pub lift-IsRefused : (state : State) (panel item device : ℕ) (at : Point) → ¬ MayLift state panel at → IsRefused state at (step state (Told panel item (ProtectDisconnect at device)))
lift-IsRefused state panel item device at not = go (dest_of state at) refl
  where
    by_lift : (dest : ℕ) → dest_of state at ≡ Some dest → (b : Bool) → may_lift state.owners (device_of state.plant panel) (is_master state.plant panel) dest ≡ b → IsRefused state at (unprotected state panel at (dest_of state at))
    by_lift dest found true may = absurd (not (dest-lift state panel at dest found may))
    by_lift dest found false kept = subst (IsRefused state at) (sym (unprotected-by state panel at dest false found kept)) (refused state at (finite.get state.owners dest) (owner_at-dest state at dest found))

    go : (o : Option ℕ) → dest_of state at ≡ o → IsRefused state at (unprotected state panel at (dest_of state at))
    go None none = subst (IsRefused state at) (sym (ap (unprotected state panel at) none)) (refused state at None (ap (option_and_then (finite.get state.owners)) none))
    go (Some dest) found = by_lift dest found (may_lift state.owners (device_of state.plant panel) (is_master state.plant panel) dest) refl
