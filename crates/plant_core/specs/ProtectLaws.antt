-- What is true of protects in every valid state, said by places and answers.
use Rattle.std.specs.Prelude.{◌≡◌, ◌≢◌, ◌⊎◌, ℕ, true, false, Bool, [], ◌∷◌, Option, Some, None, IsSome, IsNone, IfSome}
use Rattle.std.specs.FinMap.{get}
use Rattle.swp08_messages.specs.declared.point.Point.{Point}
use Rattle.swp08_messages.specs.declared.message.Message.{Message}
use Rattle.swp08_messages.specs.declared.message.Message.TheVariants.{ProtectAsk, ProtectConnect, ProtectDisconnect, ProtectTally, ProtectConnected, ProtectDisconnected}
use Rattle.plant_config.specs.Plant.{PlantData}
use Rattle.plant_config.specs.Sites.{dest_at}
use Rattle.history_lock.specs.Step.{Stepped}
use Rattle.plant_core.specs.declared.request.Request.{Request}
use Rattle.plant_core.specs.declared.request.Request.TheVariants.{Told, Poll, Leave, DisplayPoll}
use Rattle.plant_core.specs.declared.answer.Answer.{Answer}
use Rattle.plant_core.specs.declared.answer.Answer.TheVariants.{Say}
use Rattle.plant_core.specs.State.{State, IsValid, device_of, is_master, owner_at, start}
use Rattle.plant_core.specs.Step.{step}
use Rattle.plant_core.specs.Laws.{IsFree}

-- A message tells that a device protects a place, or that none does.
abbrev pub TellsOwner : (Point → Bool → ℕ → Message) → Point → Option ℕ → Message → Type 0
TellsOwner message at (Some device) told = told ≡ message at true device
TellsOwner message at None told = told ≡ message at false 0

-- Whoever asks for the owner of a place is told this one.
abbrev pub HasOwner : State → Point → Option ℕ → Type 0
HasOwner state at owner = (panel item : ℕ) → (told : Message)
    × ((step state (Told panel item (ProtectAsk at))).answers ≡ Say told ∷ [])
    × TellsOwner ProtectTally at owner told

-- Every destination but that of this place has the owner that it had.
abbrev pub OthersAreOwnedAsBefore : State → Point → State → Type 0
OthersAreOwnedAsBefore old at new = (dest : ℕ)
    → dest_at old.plant at.matrix at.level at.dest ≢ Some dest
    → get new.owners dest ≡ get old.owners dest

-- A place has a new owner, or none: so it is answered, no other destination's owner changes, and no crosspoint and no group
-- does.
pub record IsOwnedNow (old : State) (at : Point) (owner : Option ℕ) (new : State) : Type 0 where
  pub owned : HasOwner new at owner
  pub others : OthersAreOwnedAsBefore old at new
  pub crosspoints : new.crosspoints ≡ old.crosspoints
  pub groups : new.groups ≡ old.groups

-- A panel's protect is made: it is answered so, and its device owns the place.
pub record IsProtected (old : State) (panel : ℕ) (at : Point)
    (stepped : Stepped State Answer) : Type 0 where
  pub answer : stepped.answers ≡ Say (ProtectConnected at true (device_of old.plant panel)) ∷ []
  pub now : IsOwnedNow old at (Some (device_of old.plant panel)) stepped.state

-- A panel's lift is made: it is answered so, and nobody owns the place.
pub record IsLifted (old : State) (at : Point) (stepped : Stepped State Answer) : Type 0 where
  pub answer : stepped.answers ≡ Say (ProtectDisconnected at false 0) ∷ []
  pub now : IsOwnedNow old at None stepped.state

-- A protect or a lift is refused: nothing changes, and the answer is a tally of the owner.
pub record IsRefused (old : State) (at : Point) (stepped : Stepped State Answer) : Type 0 where
  pub told : Message
  pub answer : stepped.answers ≡ Say told ∷ []
  pub owner : TellsOwner ProtectTally at (owner_at old at) told
  pub state : stepped.state ≡ old

-- a panel may lift the protect of a place that it may change, and a master that of any place of the plant
abbrev pub MayLift : State → ℕ → Point → Type 0
MayLift state panel at = IsFree state panel at
    ⊎ (IsSome (dest_at state.plant at.matrix at.level at.dest)
    × (is_master state.plant panel ≡ true))

-- a panel protects a place that it may change
abbrev pub FreePlacesAreProtected : Type 0
FreePlacesAreProtected = (state : State) (panel item device : ℕ) (at : Point)
    → IsValid state → IsFree state panel at
    → IsProtected state panel at (step state (Told panel item (ProtectConnect at device)))

-- every other protect is refused
abbrev pub OtherProtectsAreRefused : Type 0
OtherProtectsAreRefused = (state : State) (panel item device : ℕ) (at : Point)
    → ¬ IsFree state panel at
    → IsRefused state at (step state (Told panel item (ProtectConnect at device)))

-- a panel lifts what it may lift
abbrev pub ProtectsAreLifted : Type 0
ProtectsAreLifted = (state : State) (panel item device : ℕ) (at : Point)
    → IsValid state → MayLift state panel at
    → IsLifted state at (step state (Told panel item (ProtectDisconnect at device)))

-- every other lift is refused
abbrev pub OtherLiftsAreRefused : Type 0
OtherLiftsAreRefused = (state : State) (panel item device : ℕ) (at : Point)
    → ¬ MayLift state panel at
    → IsRefused state at (step state (Told panel item (ProtectDisconnect at device)))

-- the panel of which a request is, none where a screen is polled
abbrev pub asker_of : Request → Option ℕ
asker_of (Told panel item message) = Some panel
asker_of (Poll panel item turn) = Some panel
asker_of (Leave panel) = Some panel
asker_of (DisplayPoll screen refresh) = None

-- A request is of no panel of this device, and of no master.
abbrev pub IsOfOtherDevice : State → Request → ℕ → Type 0
IsOfOtherDevice state request device =
    IfSome (asker_of request) (λ panel. device ≢ device_of state.plant panel)

abbrev pub IsOfNoMaster : State → Request → Type 0
IsOfNoMaster state request =
    IfSome (asker_of request) (λ panel. is_master state.plant panel ≡ false)

-- a destination that another device protects carries what it carried, whatever a panel asks, be it a master
abbrev pub ProtectedSourcesStay : Type 0
ProtectedSourcesStay = (state : State) (request : Request) (dest device : ℕ)
    → get state.owners dest ≡ Some device
    → IsOfOtherDevice state request device
    → get (step state request).state.crosspoints dest ≡ get state.crosspoints dest

-- and it stays that device's, unless the panel is a master
abbrev pub ProtectsStay : Type 0
ProtectsStay = (state : State) (request : Request) (dest device : ℕ)
    → get state.owners dest ≡ Some device
    → IsOfOtherDevice state request device
    → IsOfNoMaster state request
    → get (step state request).state.owners dest ≡ Some device

-- at the start of a plant no place is protected, and a place that the plant doesn't have never is
abbrev pub StartsAreUnprotected : Type 0
StartsAreUnprotected = (plant : PlantData) (at : Point) → HasOwner (start plant) at None

abbrev pub OutsidersAreUnprotected : Type 0
OutsidersAreUnprotected = (state : State) (at : Point)
    → IsNone (dest_at state.plant at.matrix at.level at.dest) → HasOwner state at None
