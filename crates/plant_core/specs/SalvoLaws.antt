-- What is true of salvo groups in every valid state: a group is taken whole, or no crosspoint changes.
use Rattle.std.specs.Prelude.{◌≡◌, ◌≢◌, ◌⊎◌, ℕ, ◌<◌, true, false, Bool, [], ◌∷◌, All, slice_get, Option, Some, None, IfSome}
use Rattle.std.specs.List.{Any}
use Rattle.std.specs.FinMap.{get}
use Rattle.swp08_messages.specs.declared.point.Point.{Point}
use Rattle.swp08_messages.specs.declared.message.Message.TheVariants.{Store, Stored, Go, GoDone, EntryAsk, Entry}
use Rattle.swp08_messages.specs.declared.go_status.GoStatus.TheVariants.{Made, Cleared, Empty, Protected, NoTie}
use Rattle.swp08_messages.specs.declared.validity.Validity.TheVariants.{NoEntry}
use Rattle.plant_config.specs.declared.records.Change.{Change}
use Rattle.crosspoint_state.specs.Crosspoints.{source_of}
use Rattle.tie_pools.specs.Reserve.{are_enough_for}
use Rattle.protects.specs.Owners.{IsForeign}
use Rattle.salvo_groups.specs.Limits.{salvo_limit}
use Rattle.salvo_groups.specs.Groups.{Group, group_of, may_store, stored}
use Rattle.history_lock.specs.Step.{Stepped}
use Rattle.plant_core.specs.declared.request.Request.TheVariants.{Told}
use Rattle.plant_core.specs.declared.answer.Answer.{Answer}
use Rattle.plant_core.specs.declared.answer.Answer.TheVariants.{Say}
use Rattle.plant_core.specs.State.{State, IsValid, device_of, is_master}
use Rattle.plant_core.specs.Connects.{change_of}
use Rattle.plant_core.specs.Salvos.{no_place, validity_at}
use Rattle.plant_core.specs.Step.{step}

-- Each destination of a group carries the group's source for it, or is parked where the group parks it.
abbrev pub CarriesAll : State → Group → Type 0
CarriesAll state group =
    All (λ change. source_of state.crosspoints change.dest ≡ change.source) group

-- A destination that a group doesn't name carries what it carried.
abbrev pub OthersCarryOn : State → Group → State → Type 0
OthersCarryOn old group new = (dest : ℕ) → All (λ change. change.dest ≢ dest) group
    → get new.crosspoints dest ≡ get old.crosspoints dest

-- A group was taken whole: all of its destinations carry its sources, and no other destination changed.
pub record IsTakenWhole (old : State) (group : Group) (new : State) : Type 0 where
  pub carries : CarriesAll new group
  pub others : OthersCarryOn old group new

-- No other group changed.
abbrev pub OtherGroupsStay : State → ℕ → State → Type 0
OtherGroupsStay old salvo new = (other : ℕ) → other ≢ salvo
    → group_of new.groups other ≡ group_of old.groups other

-- Another device protects one of the destinations of a group.
abbrev pub HasForeign : State → ℕ → Group → Type 0
HasForeign state device group = Any (λ change. IsForeign state.owners device change.dest) group

-- A go took its group: it says so, the group was taken whole and is empty now, and neither an owner nor another group
-- changed.
pub record IsGone (old : State) (salvo : ℕ) (stepped : Stepped State Answer) : Type 0 where
  pub answer : stepped.answers ≡ Say (GoDone Made salvo) ∷ []
  pub whole : IsTakenWhole old (group_of old.groups salvo) stepped.state
  pub empty : group_of stepped.state.groups salvo ≡ []
  pub groups : OtherGroupsStay old salvo stepped.state
  pub owners : stepped.state.owners ≡ old.owners

-- A go that clears emptied its group, says so, and nothing else changed.
pub record IsCleared (old : State) (salvo : ℕ) (stepped : Stepped State Answer) : Type 0 where
  pub answer : stepped.answers ≡ Say (GoDone Cleared salvo) ∷ []
  pub empty : group_of stepped.state.groups salvo ≡ []
  pub groups : OtherGroupsStay old salvo stepped.state
  pub rest : stepped.state ≡ record old { groups = stepped.state.groups }

-- whatever is asked of a group, it is taken whole, or no crosspoint changes at all
abbrev pub GoesAreWhole : Type 0
GoesAreWhole = (state : State) (panel item salvo : ℕ) (clear : Bool) → IsValid state
    → (let new : State = (step state (Told panel item (Go clear salvo))).state
    in IsTakenWhole state (group_of state.groups salvo) new ⊎ (new.crosspoints ≡ state.crosspoints))

-- The ties that a panel may use are enough for all of a group at once.
abbrev pub HasTies : State → ℕ → Group → Type 0
HasTies state panel group =
    are_enough_for state.plant state.crosspoints (is_master state.plant panel) group ≡ true

-- a group that has entries, of whose destinations no other device protects any, and for which the ties that the panel may
-- use are enough, is taken
abbrev pub FreeGroupsAreTaken : Type 0
FreeGroupsAreTaken = (state : State) (panel item salvo : ℕ)
    → IsValid state → salvo < salvo_limit → group_of state.groups salvo ≢ []
    → ¬ HasForeign state (device_of state.plant panel) (group_of state.groups salvo)
    → HasTies state panel (group_of state.groups salvo)
    → IsGone state salvo (step state (Told panel item (Go false salvo)))

-- a group of which another device protects a destination isn't taken, and nothing changes
abbrev pub KeptGroupsAreRefused : Type 0
KeptGroupsAreRefused = (state : State) (panel item salvo : ℕ)
    → HasForeign state (device_of state.plant panel) (group_of state.groups salvo)
    → step state (Told panel item (Go false salvo))
    ≡ record { state = state; answers = Say (GoDone Protected salvo) ∷ [] }

-- a group that has entries, of whose destinations no other device protects any, isn't taken where the ties aren't enough for
-- it, and nothing changes
abbrev pub TielessGroupsAreRefused : Type 0
TielessGroupsAreRefused = (state : State) (panel item salvo : ℕ)
    → group_of state.groups salvo ≢ []
    → ¬ HasForeign state (device_of state.plant panel) (group_of state.groups salvo)
    → ¬ HasTies state panel (group_of state.groups salvo)
    → step state (Told panel item (Go false salvo))
    ≡ record { state = state; answers = Say (GoDone NoTie salvo) ∷ [] }

-- a group that has entries is cleared
abbrev pub GroupsAreCleared : Type 0
GroupsAreCleared = (state : State) (panel item salvo : ℕ)
    → IsValid state → salvo < salvo_limit → group_of state.groups salvo ≢ []
    → IsCleared state salvo (step state (Told panel item (Go true salvo)))

-- a group that has no entries is neither taken nor cleared
abbrev pub EmptyGroupsStay : Type 0
EmptyGroupsStay = (state : State) (panel item salvo : ℕ) (clear : Bool)
    → group_of state.groups salvo ≡ []
    → step state (Told panel item (Go clear salvo))
    ≡ record { state = state; answers = Say (GoDone Empty salvo) ∷ [] }

-- A store was made: it says so, its group has the entry, and nothing else changed.
pub record IsStoredNow (old : State) (at : Point) (source : Option ℕ) (salvo : ℕ) (change : Change)
    (stepped : Stepped State Answer) : Type 0 where
  pub answer : stepped.answers ≡ Say (Stored at source salvo) ∷ []
  pub group : group_of stepped.state.groups salvo ≡ stored (group_of old.groups salvo) change
  pub groups : OtherGroupsStay old salvo stepped.state
  pub rest : stepped.state ≡ record old { groups = stepped.state.groups }

-- an entry in range is stored in a group that has its destination, or fewer than 256 entries
abbrev pub EntriesAreStored : Type 0
EntriesAreStored = (state : State) (panel item salvo : ℕ) (at : Point) (source : Option ℕ)
    (change : Change)
    → IsValid state → salvo < salvo_limit → change_of state.plant at source ≡ Some change
    → may_store (group_of state.groups salvo) change ≡ true
    → IsStoredNow state at source salvo change
    (step state (Told panel item (Store at source salvo)))

-- every other entry isn't stored: nothing changes, and nothing is answered
abbrev pub OtherEntriesAreNot : Type 0
OtherEntriesAreNot = (state : State) (panel item salvo : ℕ) (at : Point) (source : Option ℕ)
    → IfSome (change_of state.plant at source)
    (λ change. may_store (group_of state.groups salvo) change ≡ false)
    → step state (Told panel item (Store at source salvo)) ≡ record { state = state; answers = [] }

-- an entry is told as it was asked to be stored, and whether it is the last
abbrev pub EntriesAreTold : Type 0
EntriesAreTold = (state : State) (panel item salvo index : ℕ) (at : Point) (source : Option ℕ)
    (change : Change)
    → IsValid state → slice_get (group_of state.groups salvo) index ≡ Some change
    → change_of state.plant at source ≡ Some change
    → (step state (Told panel item (EntryAsk salvo index))).answers
    ≡ Say (Entry at source salvo index (validity_at (group_of state.groups salvo) index)) ∷ []

-- an entry that a group hasn't is told as source 0 of destination 0 of matrix 0, level 0, and as no entry
abbrev pub OthersAreNoEntries : Type 0
OthersAreNoEntries = (state : State) (panel item salvo index : ℕ)
    → slice_get (group_of state.groups salvo) index ≡ None
    → (step state (Told panel item (EntryAsk salvo index))).answers
    ≡ Say (Entry no_place (Some 0) salvo index NoEntry) ∷ []
