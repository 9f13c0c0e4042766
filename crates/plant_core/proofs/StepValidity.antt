-- Every step leaves a valid state.
use Rattle.std.proofs.Common.{◌≡◌, ℕ, ◌<◌, Bool, true, false, cond, [], ◌∷◌, All, Option, Some, None, IfSome, refl, sym, subst, ◌∙◌, length, get_or, inl, inr}
use Rattle.std.specs.FinMap as finite
use Rattle.std.specs.Prelude.{slice_get}
use Rattle.std.proofs.lemmas.Bool.{cases_lt}
use Rattle.std.proofs.lemmas.Option.{slice_get_past, slice_get-get_or}
use Rattle.std.proofs.lemmas.List.Elements.{All-nil, All-push}
use Rattle.swp08_messages.specs.declared.point.Point.{Point}
use Rattle.swp08_messages.specs.declared.message.Message.{Message}
use Rattle.swp08_messages.specs.declared.message.Message.TheVariants.{Interrogate, Connect, Connected, ExtConnect, ExtTally, ExtConnected, ProtectConnect, ProtectDisconnect, ProtectTally, ProtectConnected, ProtectDisconnected, Store, Stored, Go}
use Rattle.plant_config.specs.declared.records.Change.{Change}
use Rattle.plant_config.specs.Plant.{destinations_of}
use Rattle.crosspoint_state.specs.Crosspoints.{is_idle, NamesOnce}
use Rattle.crosspoint_state.specs.Applied.{applied, are_enough}
use Rattle.crosspoint_state.specs.Laws.{AreInside}
use Rattle.protects.specs.Owners.{Owners, allows, may_lift, taken, lifted}
use Rattle.salvo_groups.specs.Groups.{Group, group_of, may_store, with_store}
use Rattle.change_boards.specs.declared.sort.Sort.TheVariants.{Source, Protect}
use Rattle.history_lock.specs.Step.{Stepped}
use Rattle.plant_core.specs.declared.request.Request.{Request}
use Rattle.plant_core.specs.declared.request.Request.TheVariants.{Told, Poll, Leave, DisplayPoll}
use Rattle.plant_core.specs.declared.answer.Answer.{Answer}
use Rattle.plant_core.specs.State.{State, IsValid, IsChangeOf, AreOwners, device_of, is_master, standing}
use Rattle.plant_core.specs.Wide.{tally_of}
use Rattle.plant_core.specs.Noticed.{marked_for_others}
use Rattle.plant_core.specs.Connects.{says, says_nothing, change_of, changed, connected}
use Rattle.plant_core.specs.Protecting.{owner_told, has_same_owner, with_owners, protected, unprotected}
use Rattle.plant_core.specs.Salvos.{stored_in, emptied, moved, all_changed, gone}
use Rattle.plant_core.specs.Step.{step, dest_of}
use Rattle.plant_core.proofs.Validity.{IsValid-applied, IsValid-owners, IsValid-others, IsValid-marked, IsValid-take, IsValid-leave, IsValid-shown, AreOwners-taken, AreOwners-lifted, device-within, change_of-IsChangeOf, found-below}
use Rattle.plant_core.proofs.GroupValidity.{IsValid-store, IsValid-clear}
use Rattle.plant_core.proofs.Changes.{applied-idle, once-one, moved-within}
use Rattle.plant_core.proofs.Shows.{shown_behind, display_polled-is}
use Rattle.plant_core.proofs.ShownValidity.{shown_behind-are}
use Rattle.plant_core.proofs.Outcomes.{by_made, by_gone, made-tied, take-tied}

-- a panel's connect leaves a valid state
pub IsValid-one : (state : State) (change : Change) → IsValid state → IsChangeOf state.plant change → are_enough state.plant state.crosspoints (change ∷ []) ≡ true →
    IsValid (record state { crosspoints = applied state.plant state.crosspoints (change ∷ []) })
IsValid-one state change valid is enough =
    IsValid-applied state (change ∷ []) valid (All-push (IsChangeOf state.plant) [] change (All-nil (IsChangeOf state.plant)) is) (once-one change) enough

pub IsValid-changed : (state : State) (asker : ℕ) (change : Change) → IsValid state → IsChangeOf state.plant change → are_enough state.plant state.crosspoints (change ∷ []) ≡ true → IsValid (changed state asker change)
IsValid-changed state asker change valid is enough =
    let made : State = record state { crosspoints = applied state.plant state.crosspoints (change ∷ []) } in
    let made_is : IsValid made = IsValid-one state change valid is enough in
    elim (is_idle state.crosspoints change) as (λ b. IsValid (record made { boards = cond b state.boards (marked_for_others state.boards asker change.dest Source) })) [
      | true ↦ made_is
      | false ↦ IsValid-others made asker change.dest Source is.dest made_is
    ]

IsValid-connected : (state : State) (panel : ℕ) (at : Point) (source : Option ℕ) (made refused : Message) → IsValid state → IsValid (connected state panel made refused (change_of state.plant at source)).state
IsValid-connected state panel at source made refused valid =
    elim (change_of state.plant at source) as (λ o. change_of state.plant at source ≡ o → IsValid (connected state panel made refused o).state) [
      | None ↦ λ h. valid
      | Some change ↦ λ h.
          by_made (λ (stepped : Stepped State Answer). IsValid stepped.state) state panel made refused change
          (λ may. IsValid-changed state panel change valid (change_of-IsChangeOf state.plant at source change valid.is_plant h) (made-tied state panel change may)) valid
    ] refl

-- so does a protect, and a lift
pub IsValid-with_owners : (state : State) (asker dest : ℕ) (owners : Owners) → dest < destinations_of state.plant → IsValid state → AreOwners state.plant owners → IsValid (with_owners state asker dest owners)
IsValid-with_owners state asker dest owners within valid are =
    let owned : State = record state { owners = owners } in
    let owned_is : IsValid owned = IsValid-owners state owners valid are in
    elim (has_same_owner state.owners owners dest) as (λ b. IsValid (record owned { boards = cond b state.boards (marked_for_others state.boards asker dest Protect) })) [
      | true ↦ owned_is
      | false ↦ IsValid-others owned asker dest Protect within owned_is
    ]

pub IsValid-taken : (state : State) (asker dest : ℕ) → dest < destinations_of state.plant → IsValid state → IsValid (with_owners state asker dest (taken state.owners (device_of state.plant asker) dest))
IsValid-taken state asker dest within valid =
    let device : ℕ = device_of state.plant asker in
    IsValid-with_owners state asker dest (taken state.owners device dest) within valid
    (AreOwners-taken state.plant state.owners device dest within (device-within state.plant asker valid.is_plant) valid.owners)

pub IsValid-lifted : (state : State) (asker dest : ℕ) → dest < destinations_of state.plant → IsValid state →
    IsValid (with_owners state asker dest (lifted state.owners (device_of state.plant asker) (is_master state.plant asker) dest))
IsValid-lifted state asker dest within valid =
    let device : ℕ = device_of state.plant asker in
    let master : Bool = is_master state.plant asker in
    IsValid-with_owners state asker dest (lifted state.owners device master dest) within valid (AreOwners-lifted state.plant state.owners device master dest valid.owners)

IsValid-protected : (state : State) (panel : ℕ) (at : Point) (dest : Option ℕ) → IfSome dest (λ dest. dest < destinations_of state.plant) → IsValid state → IsValid (protected state panel at dest).state
IsValid-protected state panel at None within valid = valid
IsValid-protected state panel at (Some dest) within valid =
    let device : ℕ = device_of state.plant panel in
    elim (allows state.owners device dest) as (λ b. IsValid (cond b (says (with_owners state panel dest (taken state.owners device dest)) (owner_told ProtectConnected at (Some device))) (says state (owner_told ProtectTally at (finite.get state.owners dest)))).state) [
      | true ↦ IsValid-taken state panel dest within valid
      | false ↦ valid
    ]

IsValid-unprotected : (state : State) (panel : ℕ) (at : Point) (dest : Option ℕ) → IfSome dest (λ dest. dest < destinations_of state.plant) → IsValid state → IsValid (unprotected state panel at dest).state
IsValid-unprotected state panel at None within valid = valid
IsValid-unprotected state panel at (Some dest) within valid =
    let device : ℕ = device_of state.plant panel in
    let master : Bool = is_master state.plant panel in
    elim (may_lift state.owners device master dest) as (λ b. IsValid (cond b (says (with_owners state panel dest (lifted state.owners device master dest)) (owner_told ProtectDisconnected at None)) (says state (owner_told ProtectTally at (finite.get state.owners dest)))).state) [
      | true ↦ IsValid-lifted state panel dest within valid
      | false ↦ valid
    ]

-- and what is done to groups
IsValid-stored : (state : State) (at : Point) (source : Option ℕ) (salvo : ℕ) → IsValid state → IsValid (stored_in state at source salvo (change_of state.plant at source)).state
IsValid-stored state at source salvo valid =
    elim (change_of state.plant at source) as (λ o. change_of state.plant at source ≡ o → IsValid (stored_in state at source salvo o).state) [
      | None ↦ λ h. valid
      | Some change ↦ λ h.
          elim (may_store (group_of state.groups salvo) change) as (λ b. IsValid (cond b (says (record state { groups = with_store state.groups salvo change }) (Stored at source salvo)) (says_nothing state)).state) [
            | true ↦ IsValid-store state salvo change valid (change_of-IsChangeOf state.plant at source change valid.is_plant h)
            | false ↦ valid
          ]
    ] refl

pub IsValid-all_changed : (state : State) (group : Group) → IsValid state → All (IsChangeOf state.plant) group → NamesOnce group → are_enough state.plant state.crosspoints group ≡ true → IsValid (all_changed state group)
IsValid-all_changed state group valid all once enough =
    let made : State = record state { crosspoints = applied state.plant state.crosspoints group } in
    IsValid-marked made (moved state.crosspoints group) (moved-within group state.crosspoints (λ dest. dest < destinations_of state.plant) (λ k d below. (all k d below).dest)) (IsValid-applied state group valid all once enough)

pub IsValid-taken_whole : (state : State) (salvo : ℕ) → IsValid state → are_enough state.plant state.crosspoints (group_of state.groups salvo) ≡ true → IsValid (emptied (all_changed state (group_of state.groups salvo)) salvo)
IsValid-taken_whole state salvo valid enough =
    let group : Group = group_of state.groups salvo in
    IsValid-clear (all_changed state group) salvo (IsValid-all_changed state group valid (valid.changes salvo) (valid.groups.each salvo).distinct enough)

IsValid-gone : (state : State) (panel : ℕ) (clear : Bool) (salvo : ℕ) → IsValid state → IsValid (gone state panel clear salvo).state
IsValid-gone state panel clear salvo valid =
    by_gone (λ (stepped : Stepped State Answer). IsValid stepped.state) state panel clear salvo
    (λ may. IsValid-taken_whole state salvo valid (take-tied state panel clear (group_of state.groups salvo) may)) (λ cleared. IsValid-clear state salvo valid) (λ status. valid)

-- every step leaves a valid state
pub IsValid-step : (state : State) (request : Request) → IsValid state → IsValid (step state request).state
IsValid-step state (Told panel item (Interrogate at)) valid = valid
IsValid-step state (Told panel item (Connect at source)) valid = IsValid-connected state panel at source (Connected at source) (tally_of at (standing state at)) valid
IsValid-step state (Told panel item (ExtConnect at source)) valid = IsValid-connected state panel at source (ExtConnected at source) (ExtTally at (standing state at)) valid
IsValid-step state (Told panel item (ProtectConnect at device)) valid =
    IsValid-protected state panel at (dest_of state at) (found-below state.plant at.matrix at.level at.dest (dest_of state at) valid.is_plant refl) valid
IsValid-step state (Told panel item (ProtectDisconnect at device)) valid =
    IsValid-unprotected state panel at (dest_of state at) (found-below state.plant at.matrix at.level at.dest (dest_of state at) valid.is_plant refl) valid
IsValid-step state (Told panel item (Store at source salvo)) valid = IsValid-stored state at source salvo valid
IsValid-step state (Told panel item (Go clear salvo)) valid = IsValid-gone state panel clear salvo valid
IsValid-step state (Told panel item message) valid = valid
IsValid-step state (Poll panel item turn) valid = IsValid-take state panel valid
IsValid-step state (Leave panel) valid = IsValid-leave state panel valid
IsValid-step state (DisplayPoll screen refresh) valid =
    subst IsValid (sym (display_polled-is state screen refresh))
    (IsValid-shown state (shown_behind state screen refresh) valid (shown_behind-are state screen refresh valid))

-- a change that isn't idle is made, and the others hear of it; an idle one leaves all as it was
pub changed-busy : (state : State) (asker : ℕ) (change : Change) → is_idle state.crosspoints change ≡ false →
    record state { crosspoints = applied state.plant state.crosspoints (change ∷ []); boards = marked_for_others state.boards asker change.dest Source } ≡ changed state asker change
changed-busy state asker change busy =
    λ i. record state { crosspoints = applied state.plant state.crosspoints (change ∷ []); boards = cond (sym busy i) state.boards (marked_for_others state.boards asker change.dest Source) }

pub changed-idle : (state : State) (asker : ℕ) (change : Change) → is_idle state.crosspoints change ≡ true → state ≡ changed state asker change
changed-idle state asker change idle =
    λ i. record state { crosspoints = sym (applied-idle state.plant state.crosspoints change idle) i; boards = cond (sym idle i) state.boards (marked_for_others state.boards asker change.dest Source) }

-- an entry of a group is a change of the plant
pub entry-IsChangeOf : (state : State) (salvo index : ℕ) (entry : Change) → IsValid state → slice_get (group_of state.groups salvo) index ≡ Some entry → IsChangeOf state.plant entry
entry-IsChangeOf state salvo index entry valid here = elim (cases_lt index (length (group_of state.groups salvo))) [
  | inl within ↦
      let found : Some (get_or (group_of state.groups salvo) index entry) ≡ Some entry = sym (slice_get-get_or (group_of state.groups salvo) index entry within) ∙ here in
      let same : get_or (group_of state.groups salvo) index entry ≡ entry = cc in
      subst (IsChangeOf state.plant) same (valid.changes salvo index entry within)
  | inr past ↦ let none = slice_get_past (group_of state.groups salvo) index past in absurd cc
]

-- and the entries of a group are all inside the plant
pub entries-inside : (state : State) (salvo : ℕ) → IsValid state → AreInside state.plant (group_of state.groups salvo)
entries-inside state salvo valid k d below = (valid.changes salvo k d below).dest
