-- What steps leave as it was.
use Rattle.std.proofs.Common.{◌≡◌, ◌≢◌, ℕ, Bool, true, false, cond, List, [], ◌∷◌, All, Option, Some, None, IsNone, suc, refl, sym, ap, ◌∙◌, arith}
use Rattle.std.proofs.lemmas.Bool.{true≢false}
use Rattle.std.specs.Option.{option_map, option_and_then}
use Rattle.std.specs.FinMap as finite
use Rattle.std.specs.Ordering.{nat_cmp}
use Rattle.swp08_messages.specs.declared.point.Point.{Point}
use Rattle.swp08_messages.specs.declared.message.Message.{Message}
use Rattle.swp08_messages.specs.declared.message.Message.TheVariants.{Interrogate, Connect, Connected, ExtConnect, ExtTally, ExtConnected, ExtInterrogate, ProtectAsk, ProtectConnect, ProtectDisconnect, ProtectTally, ProtectConnected, ProtectDisconnected, DumpAsk, Store, Stored, Go, EntryAsk}
use Rattle.plant_config.specs.declared.records.Change.{Change}
use Rattle.plant_config.specs.Plant.{PlantData}
use Rattle.plant_config.specs.Sites.{dest_at, source_number_of}
use Rattle.crosspoint_state.specs.Crosspoints.{Crosspoints, source_of}
use Rattle.crosspoint_state.specs.declared.spot.Spot.{Spot}
use Rattle.protects.specs.Owners.{allows, may_lift, taken, lifted}
use Rattle.salvo_groups.specs.Groups.{group_of, may_store, with_store}
use Rattle.history_lock.specs.Step.{Stepped}
use Rattle.plant_core.specs.declared.request.Request.{Request}
use Rattle.plant_core.specs.declared.request.Request.TheVariants.{Told, Poll, Leave, DisplayPoll}
use Rattle.plant_core.specs.declared.answer.Answer.{Answer}
use Rattle.plant_core.specs.State.{State, IsValid, standing, device_of, is_master, start}
use Rattle.plant_core.specs.Wide.{tally_of, asks_change}
use Rattle.plant_core.specs.Connects.{says, says_nothing, change_of, connected}
use Rattle.plant_core.specs.Protecting.{owner_told, with_owners, protected, unprotected}
use Rattle.plant_core.specs.Salvos.{stored_in, gone}
use Rattle.plant_core.specs.Step.{step, dest_of}
use Rattle.plant_core.specs.Laws.{AnswersWith, LeavesAlone, OnlyAsks, after}
use Rattle.plant_core.proofs.Shows.{display_polled-is}
use Rattle.plant_core.proofs.StepValidity.{IsValid-step}
use Rattle.plant_core.proofs.Outcomes.{by_made, by_gone}
use Rattle.plant_core.proofs.Steps.{made, stands-answers, answers-stands}

-- no step changes the plant
connected-plant : (state : State) (panel : ℕ) (made refused : Message) (change : Option Change) → (connected state panel made refused change).state.plant ≡ state.plant
connected-plant state panel made refused None = refl
connected-plant state panel made refused (Some change) =
    by_made (λ (stepped : Stepped State Answer). stepped.state.plant ≡ state.plant) state panel made refused change (λ may. refl) refl

-- what protects, lifts, stores and clears leave of the plant and its crosspoints
pub record LeavesSources (old new : State) : Type 0 where
  pub plant : new.plant ≡ old.plant
  pub crosspoints : new.crosspoints ≡ old.crosspoints

leaves_all : (state : State) → LeavesSources state state
leaves_all state = record { plant = refl; crosspoints = refl }

pub protected-leaves : (state : State) (panel : ℕ) (at : Point) (dest : Option ℕ) → LeavesSources state (protected state panel at dest).state
protected-leaves state panel at None = leaves_all state
protected-leaves state panel at (Some dest) =
    let device : ℕ = device_of state.plant panel in
    elim (allows state.owners device dest) as (λ b. LeavesSources state (cond b (says (with_owners state panel dest (taken state.owners device dest)) (owner_told ProtectConnected at (Some device))) (says state (owner_told ProtectTally at (finite.get state.owners dest)))).state) [
      | true ↦ record { plant = refl; crosspoints = refl }
      | false ↦ leaves_all state
    ]

pub unprotected-leaves : (state : State) (panel : ℕ) (at : Point) (dest : Option ℕ) → LeavesSources state (unprotected state panel at dest).state
unprotected-leaves state panel at None = leaves_all state
unprotected-leaves state panel at (Some dest) =
    let device : ℕ = device_of state.plant panel in
    let master : Bool = is_master state.plant panel in
    elim (may_lift state.owners device master dest) as (λ b. LeavesSources state (cond b (says (with_owners state panel dest (lifted state.owners device master dest)) (owner_told ProtectDisconnected at None)) (says state (owner_told ProtectTally at (finite.get state.owners dest)))).state) [
      | true ↦ record { plant = refl; crosspoints = refl }
      | false ↦ leaves_all state
    ]

pub stored-leaves : (state : State) (at : Point) (source : Option ℕ) (salvo : ℕ) (change : Option Change) → LeavesSources state (stored_in state at source salvo change).state
stored-leaves state at source salvo None = leaves_all state
stored-leaves state at source salvo (Some change) =
    elim (may_store (group_of state.groups salvo) change) as (λ b. LeavesSources state (cond b (says (record state { groups = with_store state.groups salvo change }) (Stored at source salvo)) (says_nothing state)).state) [
      | true ↦ record { plant = refl; crosspoints = refl }
      | false ↦ leaves_all state
    ]

pub cleared-leaves : (state : State) (panel salvo : ℕ) → LeavesSources state (gone state panel true salvo).state
cleared-leaves state panel salvo =
    by_gone (λ (stepped : Stepped State Answer). LeavesSources state stepped.state) state panel true salvo
    (λ may. absurd (true≢false may.taken)) (λ cleared. record { plant = refl; crosspoints = refl }) (λ status. leaves_all state)

gone-plant : (state : State) (panel : ℕ) (clear : Bool) (salvo : ℕ) → (gone state panel clear salvo).state.plant ≡ state.plant
gone-plant state panel clear salvo =
    by_gone (λ (stepped : Stepped State Answer). stepped.state.plant ≡ state.plant) state panel clear salvo (λ may. refl) (λ cleared. refl) (λ status. refl)

-- whatever is no connect and no go that takes a group leaves the sources
pub message-leaves : (state : State) (panel item : ℕ) (message : Message) → ((extended : Bool) (at : Point) (source : Option ℕ) → message ≢ asks_change extended at source) → ((salvo : ℕ) → message ≢ Go false salvo) →
    LeavesSources state (step state (Told panel item message)).state
message-leaves state panel item (Interrogate at) no_connect no_go = leaves_all state
message-leaves state panel item (Connect at source) no_connect no_go = absurd (no_connect false at source refl)
message-leaves state panel item (ExtConnect at source) no_connect no_go = absurd (no_connect true at source refl)
message-leaves state panel item (ProtectConnect at device) no_connect no_go = protected-leaves state panel at (dest_of state at)
message-leaves state panel item (ProtectDisconnect at device) no_connect no_go = unprotected-leaves state panel at (dest_of state at)
message-leaves state panel item (Store at source salvo) no_connect no_go = stored-leaves state at source salvo (change_of state.plant at source)
message-leaves state panel item (Go true salvo) no_connect no_go = cleared-leaves state panel salvo
message-leaves state panel item (Go false salvo) no_connect no_go = absurd (no_go salvo refl)
message-leaves state panel item message no_connect no_go = leaves_all state

pub plant-step : (state : State) (request : Request) → (step state request).state.plant ≡ state.plant
plant-step state (Told panel item (Interrogate at)) = refl
plant-step state (Told panel item (Connect at source)) = connected-plant state panel (Connected at source) (tally_of at (standing state at)) (change_of state.plant at source)
plant-step state (Told panel item (ExtConnect at source)) = connected-plant state panel (ExtConnected at source) (ExtTally at (standing state at)) (change_of state.plant at source)
plant-step state (Told panel item (ProtectConnect at device)) = (protected-leaves state panel at (dest_of state at)).plant
plant-step state (Told panel item (ProtectDisconnect at device)) = (unprotected-leaves state panel at (dest_of state at)).plant
plant-step state (Told panel item (Store at source salvo)) = (stored-leaves state at source salvo (change_of state.plant at source)).plant
plant-step state (Told panel item (Go clear salvo)) = gone-plant state panel clear salvo
plant-step state (Told panel item message) = refl
plant-step state (Poll panel item turn) = refl
plant-step state (Leave panel) = refl
plant-step state (DisplayPoll screen refresh) = ap (λ (state : State). state.plant) (display_polled-is state screen refresh)

-- what leaves the sources leaves what stands
standing-left : (old new : State) (place : Point) → LeavesSources old new → standing new place ≡ standing old place
standing-left old new place leaves = λ i. stands (leaves.plant i) (leaves.crosspoints i)
  where
    stands : PlantData → Crosspoints → Option ℕ
    stands plant crosspoints =
        option_and_then (λ (dest : ℕ). option_and_then (source_number_of plant) (source_of crosspoints dest)) (dest_at plant place.matrix place.level place.dest)

left_alone : (old new : State) (place : Point) (stands : Option ℕ) → LeavesSources old new → AnswersWith old place stands → AnswersWith new place stands
left_alone old new place stands leaves answers = stands-answers new place stands (standing-left old new place leaves ∙ answers-stands old place stands answers)

-- what doesn't connect a place, and takes no group, leaves the source that stands there
keeps-connect : (state : State) (panel : ℕ) (place at : Point) (source stands : Option ℕ) (told refused : Message) → IsValid state → place ≢ at → AnswersWith state place stands →
    AnswersWith (connected state panel told refused (change_of state.plant at source)).state place stands
keeps-connect state panel place at source stands told refused valid other answers =
    elim (change_of state.plant at source) as (λ o. change_of state.plant at source ≡ o → AnswersWith (connected state panel told refused o).state place stands) [
      | None ↦ λ h. answers
      | Some change ↦ λ h.
          by_made (λ (stepped : Stepped State Answer). AnswersWith stepped.state place stands) state panel told refused change
          (λ may. (made state panel at source told change valid h).others place stands other answers) answers
    ] refl

keeps-told : (state : State) (place : Point) (panel item : ℕ) (message : Message) (stands : Option ℕ) → IsValid state → LeavesAlone place (Told panel item message) → AnswersWith state place stands →
    AnswersWith (step state (Told panel item message)).state place stands
keeps-told state place panel item (Connect at source) stands valid alone answers =
    keeps-connect state panel place at source stands (Connected at source) (tally_of at (standing state at)) valid (λ same. alone.0 panel item false source (ap (λ (at : Point). Told panel item (Connect at source)) (sym same))) answers
keeps-told state place panel item (ExtConnect at source) stands valid alone answers =
    keeps-connect state panel place at source stands (ExtConnected at source) (ExtTally at (standing state at)) valid (λ same. alone.0 panel item true source (ap (λ (at : Point). Told panel item (ExtConnect at source)) (sym same))) answers
keeps-told state place panel item (Interrogate at) stands valid alone answers = answers
keeps-told state place panel item (ProtectConnect at device) stands valid alone answers = left_alone state _ place stands (protected-leaves state panel at (dest_of state at)) answers
keeps-told state place panel item (ProtectDisconnect at device) stands valid alone answers = left_alone state _ place stands (unprotected-leaves state panel at (dest_of state at)) answers
keeps-told state place panel item (Store at source salvo) stands valid alone answers = left_alone state _ place stands (stored-leaves state at source salvo (change_of state.plant at source)) answers
keeps-told state place panel item (Go true salvo) stands valid alone answers = left_alone state _ place stands (cleared-leaves state panel salvo) answers
keeps-told state place panel item (Go false salvo) stands valid alone answers = absurd (alone.1 panel item salvo refl)
keeps-told state place panel item message stands valid alone answers = answers

keeps : (state : State) (place : Point) (request : Request) (stands : Option ℕ) → IsValid state → LeavesAlone place request → AnswersWith state place stands → AnswersWith (step state request).state place stands
keeps state place (Told panel item message) stands valid alone answers = keeps-told state place panel item message stands valid alone answers
keeps state place (Poll panel item turn) stands valid alone answers = left_alone state _ place stands (record { plant = refl; crosspoints = refl }) answers
keeps state place (Leave panel) stands valid alone answers = left_alone state _ place stands (record { plant = refl; crosspoints = refl }) answers
keeps state place (DisplayPoll screen refresh) stands valid alone answers =
    let polled = display_polled-is state screen refresh in
    left_alone state _ place stands (record { plant = ap (λ (state : State). state.plant) polled; crosspoints = ap (λ (state : State). state.crosspoints) polled }) answers

pub keep : (state : State) (place : Point) (later : List Request) (stands : Option ℕ) → IsValid state → All (LeavesAlone place) later → AnswersWith state place stands → AnswersWith (after state later) place stands
keep state place [] stands valid alone answers = answers
keep state place (request ∷ later) stands valid alone answers =
    keep (step state request).state place later stands (IsValid-step state request valid) (λ k d below. alone (suc k) d (omega arith)) (keeps state place request stands valid (alone 0 request (omega arith)) answers)

-- before the first connect, and outside the plant
pub start-parked : (plant : PlantData) (at : Point) → AnswersWith (start plant) at None
start-parked plant at = stands-answers (start plant) at None (
    elim (dest_at plant at.matrix at.level at.dest) as (λ o. option_and_then (λ (dest : ℕ). option_and_then (source_number_of plant) (source_of (start plant).crosspoints dest)) o ≡ None) [
      | None ↦ refl
      | Some dest ↦ ap (λ (o : Option Spot). option_and_then (source_number_of plant) (option_map (λ (spot : Spot). spot.source) o)) (finite.get-empty {X = Spot} nat_cmp dest)
    ])

pub outside-parked : (state : State) (at : Point) → IsNone (dest_at state.plant at.matrix at.level at.dest) → AnswersWith state at None
outside-parked state at none = stands-answers state at None (
    elim (dest_at state.plant at.matrix at.level at.dest) as (λ o. IsNone o → option_and_then (λ (dest : ℕ). option_and_then (source_number_of state.plant) (source_of state.crosspoints dest)) o ≡ None) [
      | None ↦ λ e. refl
      | Some dest ↦ λ e. cc
    ] none)

-- a message that only asks changes nothing
pub question-same : (state : State) (panel item : ℕ) (message : Message) → OnlyAsks message → (step state (Told panel item message)).state ≡ state
question-same state panel item (Interrogate at) asks = refl
question-same state panel item (ExtInterrogate at) asks = refl
question-same state panel item (ProtectAsk at) asks = refl
question-same state panel item (DumpAsk matrix level) asks = refl
question-same state panel item (EntryAsk salvo index) asks = refl
question-same state panel item message asks = absurd asks
