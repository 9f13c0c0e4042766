-- What a protect keeps, whatever another device's panel asks.
use Rattle.std.proofs.Common.{◌≡◌, ◌≢◌, ℕ, Bool, true, false, cond, ◌||◌, [], ◌∷◌, Option, Some, None, IsNone, inl, inr, refl, sym, ap, ◌∙◌, arith}
use Rattle.std.specs.Option.{option_and_then}
use Rattle.std.specs.Ordering.{nat_cmp}
use Rattle.std.specs.FinMap as finite
use Rattle.std.proofs.lemmas.Bool.{cases_eq, both_ways}
use Rattle.swp08_messages.specs.declared.point.Point.{Point}
use Rattle.swp08_messages.specs.declared.message.Message.{Message}
use Rattle.swp08_messages.specs.declared.message.Message.TheVariants.{Interrogate, Connect, Connected, ExtConnect, ExtTally, ExtConnected, ProtectConnect, ProtectDisconnect, ProtectTally, ProtectConnected, ProtectDisconnected, Store, Stored, Go}
use Rattle.plant_config.specs.Plant.{PlantData}
use Rattle.plant_config.specs.Sites.{dest_at}
use Rattle.plant_config.specs.declared.records.Change.{Change}
use Rattle.protects.specs.Owners.{allows, may_lift, taken, lifted}
use Rattle.salvo_groups.specs.Groups.{Group, group_of, may_store, with_store}
use Rattle.history_lock.specs.Step.{Stepped}
use Rattle.plant_core.specs.declared.request.Request.{Request}
use Rattle.plant_core.specs.declared.request.Request.TheVariants.{Told, Poll, Leave, DisplayPoll}
use Rattle.plant_core.specs.declared.answer.Answer.{Answer}
use Rattle.plant_core.specs.State.{State, device_of, is_master, start, standing}
use Rattle.plant_core.specs.Wide.{tally_of}
use Rattle.plant_core.specs.Connects.{says, says_nothing, change_of, connected}
use Rattle.plant_core.specs.Protecting.{owner_told, with_owners, protected, unprotected}
use Rattle.plant_core.specs.Salvos.{stored_in, gone}
use Rattle.plant_core.specs.Step.{step, dest_of}
use Rattle.plant_core.specs.ProtectLaws.{HasOwner, IsOfOtherDevice, IsOfNoMaster}
use Rattle.plant_core.proofs.Outcomes.{by_made, by_gone, made-permitted}
use Rattle.plant_core.proofs.Changes.{kept-allows, permitted-apart, get-one_other, get-applied_other}
use Rattle.plant_core.proofs.OwnerLemmas.{has-owner, taken_other, lifted_other}
use Rattle.plant_core.proofs.Shows.{display_polled-is}
use Rattle.plant_core.proofs.StepLeaves.{protected-leaves, unprotected-leaves, stored-leaves}

-- the source of a destination that another device protects stays
module _ (state : State) (panel dest device : ℕ) (owned : finite.get state.owners dest ≡ Some device) (other : device ≢ device_of state.plant panel) where
  source-connect : (made refused : Message) (change : Option Change) → finite.get (connected state panel made refused change).state.crosspoints dest ≡ finite.get state.crosspoints dest
  source-connect made refused None = refl
  source-connect made refused (Some change) =
      by_made (λ (stepped : Stepped State Answer). finite.get stepped.state.crosspoints dest ≡ finite.get state.crosspoints dest) state panel made refused change
      (λ may.
      get-one_other state.plant state.crosspoints change dest (λ same. permitted-apart (change ∷ []) state.owners (device_of state.plant panel) dest device owned other (made-permitted state panel change may) 0 change (omega arith) (sym same))) refl

  source-gone : (clear : Bool) (salvo : ℕ) → finite.get (gone state panel clear salvo).state.crosspoints dest ≡ finite.get state.crosspoints dest
  source-gone clear salvo =
      let group : Group = group_of state.groups salvo in
      by_gone (λ (stepped : Stepped State Answer). finite.get stepped.state.crosspoints dest ≡ finite.get state.crosspoints dest) state panel clear salvo
      (λ may. get-applied_other state.plant state.crosspoints group dest (permitted-apart group state.owners (device_of state.plant panel) dest device owned other may.permitted)) (λ cleared. refl) (λ status. refl)

  source-told : (item : ℕ) (message : Message) → finite.get (step state (Told panel item message)).state.crosspoints dest ≡ finite.get state.crosspoints dest
  source-told item (Interrogate at) = refl
  source-told item (Connect at source) = source-connect (Connected at source) (tally_of at (standing state at)) (change_of state.plant at source)
  source-told item (ExtConnect at source) = source-connect (ExtConnected at source) (ExtTally at (standing state at)) (change_of state.plant at source)
  source-told item (ProtectConnect at named) = ap (λ x. finite.get x dest) (protected-leaves state panel at (dest_of state at)).crosspoints
  source-told item (ProtectDisconnect at named) = ap (λ x. finite.get x dest) (unprotected-leaves state panel at (dest_of state at)).crosspoints
  source-told item (Store at source salvo) = ap (λ x. finite.get x dest) (stored-leaves state at source salvo (change_of state.plant at source)).crosspoints
  source-told item (Go clear salvo) = source-gone clear salvo
  source-told item message = refl

  -- and so does its owner, if the panel is no master
  owner-protect : (at : Point) (named : Option ℕ) → finite.get (protected state panel at named).state.owners dest ≡ Some device
  owner-protect at None = owned
  owner-protect at (Some d) = go (allows state.owners (device_of state.plant panel) d) refl
    where
      go : (b : Bool) → allows state.owners (device_of state.plant panel) d ≡ b →
          finite.get (cond b (says (with_owners state panel d (taken state.owners (device_of state.plant panel) d)) (owner_told ProtectConnected at (Some (device_of state.plant panel)))) (says state (owner_told ProtectTally at (finite.get state.owners d)))).state.owners dest ≡ Some device
      go false kept = owned
      go true allowed = elim (cases_eq dest d) [
        | inl same ↦
            absurd (both_ways (allows state.owners (device_of state.plant panel) d) (ap (allows state.owners (device_of state.plant panel)) (sym same) ∙ kept-allows state.owners (device_of state.plant panel) dest device owned other) allowed)
        | inr apart ↦ taken_other state.owners (device_of state.plant panel) d dest apart ∙ owned
      ]

  owner-lift : is_master state.plant panel ≡ false → (at : Point) (named : Option ℕ) → finite.get (unprotected state panel at named).state.owners dest ≡ Some device
  owner-lift mere at None = owned
  owner-lift mere at (Some d) = go (may_lift state.owners (device_of state.plant panel) (is_master state.plant panel) d) refl
    where
      kept_here : dest ≡ d → may_lift state.owners (device_of state.plant panel) (is_master state.plant panel) d ≡ false
      kept_here same =
          ap (λ b. b || allows state.owners (device_of state.plant panel) d) mere
          ∙ ap (allows state.owners (device_of state.plant panel)) (sym same) ∙ kept-allows state.owners (device_of state.plant panel) dest device owned other

      go : (b : Bool) → may_lift state.owners (device_of state.plant panel) (is_master state.plant panel) d ≡ b →
          finite.get (cond b (says (with_owners state panel d (lifted state.owners (device_of state.plant panel) (is_master state.plant panel) d)) (owner_told ProtectDisconnected at None)) (says state (owner_told ProtectTally at (finite.get state.owners d)))).state.owners dest ≡ Some device
      go false kept = owned
      go true may = elim (cases_eq dest d) [
        | inl same ↦ absurd (both_ways (may_lift state.owners (device_of state.plant panel) (is_master state.plant panel) d) (kept_here same) may)
        | inr apart ↦ lifted_other state.owners (device_of state.plant panel) (is_master state.plant panel) d dest apart ∙ owned
      ]

-- connects, stores and goes leave the owners
pub connected-owners : (state : State) (panel : ℕ) (made refused : Message) (change : Option Change) → (connected state panel made refused change).state.owners ≡ state.owners
connected-owners state panel made refused None = refl
connected-owners state panel made refused (Some change) =
    by_made (λ (stepped : Stepped State Answer). stepped.state.owners ≡ state.owners) state panel made refused change (λ may. refl) refl

stored-owners : (state : State) (at : Point) (source : Option ℕ) (salvo : ℕ) (change : Option Change) → (stored_in state at source salvo change).state.owners ≡ state.owners
stored-owners state at source salvo None = refl
stored-owners state at source salvo (Some change) =
    elim (may_store (group_of state.groups salvo) change) as (λ b. (cond b (says (record state { groups = with_store state.groups salvo change }) (Stored at source salvo)) (says_nothing state)).state.owners ≡ state.owners) [
      | true ↦ refl
      | false ↦ refl
    ]

pub gone-owners : (state : State) (panel : ℕ) (clear : Bool) (salvo : ℕ) → (gone state panel clear salvo).state.owners ≡ state.owners
gone-owners state panel clear salvo =
    by_gone (λ (stepped : Stepped State Answer). stepped.state.owners ≡ state.owners) state panel clear salvo (λ may. refl) (λ cleared. refl) (λ status. refl)

pub sources-stay : (state : State) (request : Request) (dest device : ℕ) → finite.get state.owners dest ≡ Some device → IsOfOtherDevice state request device →
    finite.get (step state request).state.crosspoints dest ≡ finite.get state.crosspoints dest
sources-stay state (Told panel item message) dest device owned other = source-told state panel dest device owned other item message
sources-stay state (Poll panel item turn) dest device owned other = refl
sources-stay state (Leave panel) dest device owned other = refl
sources-stay state (DisplayPoll screen refresh) dest device owned other = ap (λ (state : State). finite.get state.crosspoints dest) (display_polled-is state screen refresh)

pub owners-stay : (state : State) (request : Request) (dest device : ℕ) → finite.get state.owners dest ≡ Some device → IsOfOtherDevice state request device → IsOfNoMaster state request →
    finite.get (step state request).state.owners dest ≡ Some device
owners-stay state (Told panel item (Interrogate at)) dest device owned other mere = owned
owners-stay state (Told panel item (Connect at source)) dest device owned other mere = ap (λ o. finite.get o dest) (connected-owners state panel (Connected at source) (tally_of at (standing state at)) (change_of state.plant at source)) ∙ owned
owners-stay state (Told panel item (ExtConnect at source)) dest device owned other mere = ap (λ o. finite.get o dest) (connected-owners state panel (ExtConnected at source) (ExtTally at (standing state at)) (change_of state.plant at source)) ∙ owned
owners-stay state (Told panel item (ProtectConnect at named)) dest device owned other mere = owner-protect state panel dest device owned other at (dest_of state at)
owners-stay state (Told panel item (ProtectDisconnect at named)) dest device owned other mere = owner-lift state panel dest device owned other mere at (dest_of state at)
owners-stay state (Told panel item (Store at source salvo)) dest device owned other mere = ap (λ o. finite.get o dest) (stored-owners state at source salvo (change_of state.plant at source)) ∙ owned
owners-stay state (Told panel item (Go clear salvo)) dest device owned other mere = ap (λ o. finite.get o dest) (gone-owners state panel clear salvo) ∙ owned
owners-stay state (Told panel item message) dest device owned other mere = owned
owners-stay state (Poll panel item turn) dest device owned other mere = owned
owners-stay state (Leave panel) dest device owned other mere = owned
owners-stay state (DisplayPoll screen refresh) dest device owned other mere = ap (λ (state : State). finite.get state.owners dest) (display_polled-is state screen refresh) ∙ owned

-- before the first protect, and outside the plant
pub start-unprotected : (plant : PlantData) (at : Point) → HasOwner (start plant) at None
start-unprotected plant at = has-owner (start plant) at None (
    elim (dest_at plant at.matrix at.level at.dest) as (λ o. option_and_then (finite.get (start plant).owners) o ≡ None) [
      | None ↦ refl
      | Some dest ↦ finite.get-empty {X = ℕ} nat_cmp dest
    ])

pub outside-unprotected : (state : State) (at : Point) → IsNone (dest_at state.plant at.matrix at.level at.dest) → HasOwner state at None
outside-unprotected state at none = has-owner state at None (
    elim (dest_at state.plant at.matrix at.level at.dest) as (λ o. IsNone o → option_and_then (finite.get state.owners) o ≡ None) [
      | None ↦ λ e. refl
      | Some dest ↦ λ e. cc
    ] none)
