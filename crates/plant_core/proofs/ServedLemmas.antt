-- Boards don't matter for what messages do.
use Rattle.std.proofs.Common.{◌≡◌, ℕ, ◌==◌, Bool, true, false, not, cond, List, length, Option, Some, None, refl}
use Rattle.std.specs.FinMap as finite
use Rattle.swp08_messages.specs.declared.point.Point.{Point}
use Rattle.swp08_messages.specs.declared.message.Message.{Message}
use Rattle.swp08_messages.specs.declared.message.Message.TheVariants.{Interrogate, Connect, ExtConnect, ExtTally, ExtConnected, ExtInterrogate, Connected, ProtectConnect, ProtectDisconnect, ProtectTally, ProtectConnected, ProtectDisconnected, Store, Stored, Go}
use Rattle.plant_config.specs.declared.records.Change.{Change}
use Rattle.tie_pools.specs.Reserve.{are_enough_for}
use Rattle.protects.specs.Owners.{allows, may_lift, taken, lifted}
use Rattle.salvo_groups.specs.Groups.{Group, group_of, may_store, with_store}
use Rattle.change_boards.specs.Board.{Board}
use Rattle.history_lock.specs.Step.{Stepped}
use Rattle.plant_core.specs.declared.request.Request.TheVariants.{Told}
use Rattle.plant_core.specs.declared.answer.Answer.{Answer}
use Rattle.plant_core.specs.State.{State, standing, device_of, is_master}
use Rattle.plant_core.specs.Wide.{tally_of}
use Rattle.plant_core.specs.Connects.{says, says_nothing, change_of, are_permitted, changed, may_make, connected}
use Rattle.plant_core.specs.Protecting.{owner_told, with_owners, protected, unprotected}
use Rattle.plant_core.specs.Salvos.{stored_in}
use Rattle.plant_core.specs.Step.{step, dest_of}
use Rattle.plant_core.proofs.Outcomes.{gone_by}

-- two steps are answered, and change all but the notices, alike
pub record AreAlike (one other : Stepped State Answer) : Type 0 where
  pub answers : one.answers ≡ other.answers
  pub crosspoints : one.state.crosspoints ≡ other.state.crosspoints
  pub owners : one.state.owners ≡ other.state.owners
  pub groups : one.state.groups ≡ other.state.groups

module _ (state : State) (boards : List Board) where
  abbrev there : State
  there = record state { boards = boards }

  connect_alike : (panel : ℕ) (made refused : Message) (change : Option Change) → AreAlike (connected there panel made refused change) (connected state panel made refused change)
  connect_alike panel made refused None = record { answers = refl; crosspoints = refl; owners = refl; groups = refl }
  connect_alike panel made refused (Some change) =
      elim (may_make state panel change) as (λ b. AreAlike (cond b (says (changed there panel change) made) (says there refused)) (cond b (says (changed state panel change) made) (says state refused))) [
        | true ↦ record { answers = refl; crosspoints = refl; owners = refl; groups = refl }
        | false ↦ record { answers = refl; crosspoints = refl; owners = refl; groups = refl }
      ]

  protect_alike : (panel : ℕ) (at : Point) (named : Option ℕ) → AreAlike (protected there panel at named) (protected state panel at named)
  protect_alike panel at None = record { answers = refl; crosspoints = refl; owners = refl; groups = refl }
  protect_alike panel at (Some d) =
      let device : ℕ = device_of state.plant panel in
      elim (allows state.owners device d) as (λ b. AreAlike (cond b (says (with_owners there panel d (taken state.owners device d)) (owner_told ProtectConnected at (Some device))) (says there (owner_told ProtectTally at (finite.get state.owners d)))) (cond b (says (with_owners state panel d (taken state.owners device d)) (owner_told ProtectConnected at (Some device))) (says state (owner_told ProtectTally at (finite.get state.owners d))))) [
        | true ↦ record { answers = refl; crosspoints = refl; owners = refl; groups = refl }
        | false ↦ record { answers = refl; crosspoints = refl; owners = refl; groups = refl }
      ]

  lift_alike : (panel : ℕ) (at : Point) (named : Option ℕ) → AreAlike (unprotected there panel at named) (unprotected state panel at named)
  lift_alike panel at None = record { answers = refl; crosspoints = refl; owners = refl; groups = refl }
  lift_alike panel at (Some d) =
      let device : ℕ = device_of state.plant panel in
      let master : Bool = is_master state.plant panel in
      elim (may_lift state.owners device master d) as (λ b. AreAlike (cond b (says (with_owners there panel d (lifted state.owners device master d)) (owner_told ProtectDisconnected at None)) (says there (owner_told ProtectTally at (finite.get state.owners d)))) (cond b (says (with_owners state panel d (lifted state.owners device master d)) (owner_told ProtectDisconnected at None)) (says state (owner_told ProtectTally at (finite.get state.owners d))))) [
        | true ↦ record { answers = refl; crosspoints = refl; owners = refl; groups = refl }
        | false ↦ record { answers = refl; crosspoints = refl; owners = refl; groups = refl }
      ]

  store_alike : (at : Point) (source : Option ℕ) (salvo : ℕ) (change : Option Change) → AreAlike (stored_in there at source salvo change) (stored_in state at source salvo change)
  store_alike at source salvo None = record { answers = refl; crosspoints = refl; owners = refl; groups = refl }
  store_alike at source salvo (Some change) =
      elim (may_store (group_of state.groups salvo) change) as (λ b. AreAlike (cond b (says (record there { groups = with_store state.groups salvo change }) (Stored at source salvo)) (says_nothing there)) (cond b (says (record state { groups = with_store state.groups salvo change }) (Stored at source salvo)) (says_nothing state))) [
        | true ↦ record { answers = refl; crosspoints = refl; owners = refl; groups = refl }
        | false ↦ record { answers = refl; crosspoints = refl; owners = refl; groups = refl }
      ]

  go_alike : (salvo : ℕ) (empty clear foreign short : Bool) → AreAlike (gone_by there salvo empty clear foreign short) (gone_by state salvo empty clear foreign short)
  go_alike salvo true clear foreign short = record { answers = refl; crosspoints = refl; owners = refl; groups = refl }
  go_alike salvo false true foreign short = record { answers = refl; crosspoints = refl; owners = refl; groups = refl }
  go_alike salvo false false true short = record { answers = refl; crosspoints = refl; owners = refl; groups = refl }
  go_alike salvo false false false true = record { answers = refl; crosspoints = refl; owners = refl; groups = refl }
  go_alike salvo false false false false = record { answers = refl; crosspoints = refl; owners = refl; groups = refl }

  pub told_alike : (panel item : ℕ) (message : Message) → AreAlike (step there (Told panel item message)) (step state (Told panel item message))
  told_alike panel item (Interrogate at) = record { answers = refl; crosspoints = refl; owners = refl; groups = refl }
  told_alike panel item (ExtInterrogate at) = record { answers = refl; crosspoints = refl; owners = refl; groups = refl }
  told_alike panel item (Connect at source) = connect_alike panel (Connected at source) (tally_of at (standing state at)) (change_of state.plant at source)
  told_alike panel item (ExtConnect at source) = connect_alike panel (ExtConnected at source) (ExtTally at (standing state at)) (change_of state.plant at source)
  told_alike panel item (ProtectConnect at device) = protect_alike panel at (dest_of state at)
  told_alike panel item (ProtectDisconnect at device) = lift_alike panel at (dest_of state at)
  told_alike panel item (Store at source salvo) = store_alike at source salvo (change_of state.plant at source)
  told_alike panel item (Go clear salvo) =
      let group : Group = group_of state.groups salvo in
      go_alike salvo (length group == 0) clear (not (are_permitted state.owners (device_of state.plant panel) group)) (not (are_enough_for state.plant state.crosspoints (is_master state.plant panel) group))
  told_alike panel item message = record { answers = refl; crosspoints = refl; owners = refl; groups = refl }
