-- What holds of each outcome of a connect, and of a go that takes a group, holds of what it does.
use Rattle.std.proofs.Common.{◌≡◌, ℕ, ◌==◌, Bool, true, false, not, cond, ◌&&◌, List, [], ◌∷◌, length, Some, refl, ap, ◌∙◌}
use Rattle.std.proofs.lemmas.Bool.{and_parts}
use Rattle.std.specs.Prelude.{is_none}
use Rattle.swp08_messages.specs.declared.message.Message.{Message}
use Rattle.swp08_messages.specs.declared.message.Message.TheVariants.{GoDone}
use Rattle.swp08_messages.specs.declared.go_status.GoStatus.{GoStatus}
use Rattle.swp08_messages.specs.declared.go_status.GoStatus.TheVariants.{Made, Cleared, Empty, Protected, NoTie}
use Rattle.plant_config.specs.declared.records.Change.{Change}
use Rattle.plant_config.specs.Plant.{PlantData}
use Rattle.crosspoint_state.specs.Crosspoints.{Crosspoints}
use Rattle.crosspoint_state.specs.Applied.{are_enough}
use Rattle.tie_pools.specs.Reserve.{are_enough_for}
use Rattle.tie_pools.specs.Plans.{IsExhausted}
use Rattle.tie_pools.proofs.AllTiesLemmas.{enough_whoever}
use Rattle.tie_pools.specs.declared.planned.Exhausted.{Exhausted}
use Rattle.salvo_groups.specs.Groups.{Group, group_of}
use Rattle.history_lock.specs.Step.{Stepped}
use Rattle.plant_core.specs.declared.answer.Answer.{Answer}
use Rattle.plant_core.specs.State.{State, device_of, is_master}
use Rattle.plant_core.specs.Connects.{says, are_permitted, changed, may_make, connected}
use Rattle.plant_core.specs.Salvos.{emptied, all_changed, gone}

-- a change is made where it may be, and else the source that stands is told
pub by_made : (P : Stepped State Answer → Type 0) (state : State) (panel : ℕ) (made refused : Message) (change : Change) →
    (may_make state panel change ≡ true → P (says (changed state panel change) made)) →
    P (says state refused) → P (connected state panel made refused (Some change))
by_made P state panel made refused change done kept =
    elim (may_make state panel change) as (λ b. may_make state panel change ≡ b → P (cond b (says (changed state panel change) made) (says state refused))) [
      | true ↦ done
      | false ↦ λ e. kept
    ] refl

-- the ties that a panel may use are enough for changes
abbrev pub may_use : State → ℕ → List Change → Bool
may_use state panel changes = are_enough_for state.plant state.crosspoints (is_master state.plant panel) changes

-- a panel may make a change that is permitted and for which its ties are enough, and no other
pub may-both : (state : State) (panel : ℕ) (change : Change) → are_permitted state.owners (device_of state.plant panel) (change ∷ []) ≡ true → may_use state panel (change ∷ []) ≡ true → may_make state panel change ≡ true
may-both state panel change permitted enough = ap (λ b. b && may_use state panel (change ∷ [])) permitted ∙ enough

pub made-permitted : (state : State) (panel : ℕ) (change : Change) → may_make state panel change ≡ true → are_permitted state.owners (device_of state.plant panel) (change ∷ []) ≡ true
made-permitted state panel change may = (and_parts (are_permitted state.owners (device_of state.plant panel) (change ∷ [])) (may_use state panel (change ∷ [])) may).0

pub made-enough : (state : State) (panel : ℕ) (change : Change) → may_make state panel change ≡ true → may_use state panel (change ∷ []) ≡ true
made-enough state panel change may = (and_parts (are_permitted state.owners (device_of state.plant panel) (change ∷ [])) (may_use state panel (change ∷ [])) may).1

-- then the ties are enough at all
pub made-tied : (state : State) (panel : ℕ) (change : Change) → may_make state panel change ≡ true → are_enough state.plant state.crosspoints (change ∷ []) ≡ true
made-tied state panel change may = enough_whoever state.plant state.crosspoints (is_master state.plant panel) (change ∷ []) (made-enough state panel change may)

-- a group that isn't to be cleared is permitted, and the ties are enough for it
pub record MayTake (state : State) (panel : ℕ) (clear : Bool) (group : Group) : Type 0 where
  pub taken : clear ≡ false
  pub permitted : are_permitted state.owners (device_of state.plant panel) group ≡ true
  pub enough : may_use state panel group ≡ true

pub take-tied : (state : State) (panel : ℕ) (clear : Bool) (group : Group) → MayTake state panel clear group → are_enough state.plant state.crosspoints group ≡ true
take-tied state panel clear group may = enough_whoever state.plant state.crosspoints (is_master state.plant panel) group may.enough

-- a go by whether its group has no entries and is to be cleared, another device protects a destination, and ties are missing
abbrev pub gone_by : State → ℕ → Bool → Bool → Bool → Bool → Stepped State Answer
gone_by state salvo empty clear foreign short =
    cond empty (says state (GoDone Empty salvo))
    (cond clear (says (emptied state salvo) (GoDone Cleared salvo))
    (cond foreign (says state (GoDone Protected salvo))
    (cond short (says state (GoDone NoTie salvo)) (says (emptied (all_changed state (group_of state.groups salvo)) salvo) (GoDone Made salvo)))))

-- a group is taken where it may be, or cleared, and else nothing changes
pub by_gone : (P : Stepped State Answer → Type 0) (state : State) (panel : ℕ) (clear : Bool) (salvo : ℕ) →
    (MayTake state panel clear (group_of state.groups salvo) → P (says (emptied (all_changed state (group_of state.groups salvo)) salvo) (GoDone Made salvo))) →
    (clear ≡ true → P (says (emptied state salvo) (GoDone Cleared salvo))) →
    ((status : GoStatus) → P (says state (GoDone status salvo))) → P (gone state panel clear salvo)
by_gone P state panel clear salvo made cleared kept =
    by (length group == 0) clear (are_permitted state.owners (device_of state.plant panel) group) (may_use state panel group) refl refl refl
  where
    group : Group
    group = group_of state.groups salvo

    by : (empty clears permitted enough : Bool) → clear ≡ clears → are_permitted state.owners (device_of state.plant panel) group ≡ permitted → may_use state panel group ≡ enough →
        P (gone_by state salvo empty clears (not permitted) (not enough))
    by true clears permitted enough asked free tied = kept Empty
    by false true permitted enough asked free tied = cleared asked
    by false false false enough asked free tied = kept Protected
    by false false true false asked free tied = kept NoTie
    by false false true true asked free tied = made (record { taken = asked; permitted = free; enough = tied })

-- where a pool is exhausted for a panel its ties aren't enough
pub too_few : (plant : PlantData) (crosspoints : Crosspoints) (master : Bool) (changes : List Change) (fault : Exhausted) → IsExhausted plant crosspoints master changes fault → are_enough_for plant crosspoints master changes ≡ false
too_few plant crosspoints master changes fault is = ap is_none is.lowest
