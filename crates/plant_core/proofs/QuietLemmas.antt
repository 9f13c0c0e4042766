-- What changes neither a source nor an owner gives no notice.
use Rattle.std.proofs.Common.{◌≡◌, ℕ, nat_eq, Bool, true, false, cond, ◌||◌, List, [], ◌∷◌, Option, Some, None, refl, sym, ap, ◌∙◌, eq-eqb}
use Rattle.std.proofs.lemmas.Bool.{both_ways}
use Rattle.std.specs.Option.{option_eq}
use Rattle.std.specs.FinMap as finite
use Rattle.swp08_messages.specs.declared.point.Point.{Point}
use Rattle.swp08_messages.specs.declared.message.Message.{Message}
use Rattle.swp08_messages.specs.declared.message.Message.TheVariants.{Interrogate, Connect, Connected, ExtConnect, ExtTally, ExtConnected, ProtectConnect, ProtectDisconnect, ProtectTally, ProtectConnected, ProtectDisconnected, Store, Stored, Go}
use Rattle.plant_config.specs.declared.records.Change.{Change}
use Rattle.crosspoint_state.specs.Crosspoints.{source_of, is_idle}
use Rattle.crosspoint_state.specs.Applied.{applied}
use Rattle.protects.specs.Owners.{Owners, allows, may_lift, taken, lifted}
use Rattle.salvo_groups.specs.Groups.{Group, group_of, may_store, with_store}
use Rattle.change_boards.specs.declared.sort.Sort.TheVariants.{Source, Protect}
use Rattle.history_lock.specs.Step.{Stepped}
use Rattle.plant_core.specs.declared.request.Request.TheVariants.{Told}
use Rattle.plant_core.specs.declared.answer.Answer.{Answer}
use Rattle.plant_core.specs.State.{State, IsValid, device_of, is_master, standing}
use Rattle.plant_core.specs.Wide.{tally_of}
use Rattle.plant_core.specs.Noticed.{marked_for_others, all_marked}
use Rattle.plant_core.specs.Connects.{says, says_nothing, change_of, connected}
use Rattle.plant_core.specs.Protecting.{owner_told, has_same_owner, with_owners, protected, unprotected}
use Rattle.plant_core.specs.Salvos.{stored_in, moved, gone}
use Rattle.plant_core.specs.Step.{step, dest_of}
use Rattle.plant_core.specs.Laws.{CarryAsBefore}
use Rattle.plant_core.specs.NoticeLaws.{OwnedAsBefore}
use Rattle.plant_core.proofs.Outcomes.{by_made, by_gone}
use Rattle.plant_core.proofs.Changes.{source_same, source_of-one, source-idle, is_moved}
use Rattle.plant_core.proofs.Noticed.{is_among}

connect-quiet : (state : State) (panel : ℕ) (made refused : Message) (change : Option Change) → CarryAsBefore state (connected state panel made refused change).state →
    (connected state panel made refused change).state.boards ≡ state.boards
connect-quiet state panel made refused None same = refl
connect-quiet state panel made refused (Some change) same =
    by_made (λ (stepped : Stepped State Answer). CarryAsBefore state stepped.state → stepped.state.boards ≡ state.boards) state panel made refused change
    (λ may same. by_idle (is_idle state.crosspoints change) refl (same change.dest)) (λ same. refl) same
  where
    by_idle : (b : Bool) → is_idle state.crosspoints change ≡ b → source_of (applied state.plant state.crosspoints (change ∷ [])) change.dest ≡ source_of state.crosspoints change.dest → cond b state.boards (marked_for_others state.boards panel change.dest Source) ≡ state.boards
    by_idle true idle same = refl
    by_idle false busy same =
        absurd (both_ways (is_idle state.crosspoints change) busy (source-idle state.crosspoints change (sym same ∙ source_of-one state.plant state.crosspoints change)))

owners-quiet : (state : State) (panel dest : ℕ) (owners : Owners) → finite.get owners dest ≡ finite.get state.owners dest → (with_owners state panel dest owners).boards ≡ state.boards
owners-quiet state panel dest owners same =
    let alike : has_same_owner state.owners owners dest ≡ true =
    ap (option_eq nat_eq (finite.get state.owners dest)) same ∙ source_same (finite.get state.owners dest) in
    ap (λ b. cond b state.boards (marked_for_others state.boards panel dest Protect)) alike

protect-quiet : (state : State) (panel : ℕ) (at : Point) (named : Option ℕ) → OwnedAsBefore state (protected state panel at named).state → (protected state panel at named).state.boards ≡ state.boards
protect-quiet state panel at None same = refl
protect-quiet state panel at (Some d) same = go (allows state.owners (device_of state.plant panel) d) same
  where
    go : (b : Bool) → OwnedAsBefore state (cond b (says (with_owners state panel d (taken state.owners (device_of state.plant panel) d)) (owner_told ProtectConnected at (Some (device_of state.plant panel)))) (says state (owner_told ProtectTally at (finite.get state.owners d)))).state →
        (cond b (says (with_owners state panel d (taken state.owners (device_of state.plant panel) d)) (owner_told ProtectConnected at (Some (device_of state.plant panel)))) (says state (owner_told ProtectTally at (finite.get state.owners d)))).state.boards ≡ state.boards
    go true same = owners-quiet state panel d (taken state.owners (device_of state.plant panel) d) (same d)
    go false same = refl

lift-quiet : (state : State) (panel : ℕ) (at : Point) (named : Option ℕ) → OwnedAsBefore state (unprotected state panel at named).state → (unprotected state panel at named).state.boards ≡ state.boards
lift-quiet state panel at None same = refl
lift-quiet state panel at (Some d) same = go (may_lift state.owners (device_of state.plant panel) (is_master state.plant panel) d) same
  where
    go : (b : Bool) → OwnedAsBefore state (cond b (says (with_owners state panel d (lifted state.owners (device_of state.plant panel) (is_master state.plant panel) d)) (owner_told ProtectDisconnected at None)) (says state (owner_told ProtectTally at (finite.get state.owners d)))).state →
        (cond b (says (with_owners state panel d (lifted state.owners (device_of state.plant panel) (is_master state.plant panel) d)) (owner_told ProtectDisconnected at None)) (says state (owner_told ProtectTally at (finite.get state.owners d)))).state.boards ≡ state.boards
    go true same = owners-quiet state panel d (lifted state.owners (device_of state.plant panel) (is_master state.plant panel) d) (same d)
    go false same = refl

pub store-quiet : (state : State) (at : Point) (source : Option ℕ) (salvo : ℕ) (change : Option Change) → (stored_in state at source salvo change).state.boards ≡ state.boards
store-quiet state at source salvo None = refl
store-quiet state at source salvo (Some change) =
    elim (may_store (group_of state.groups salvo) change) as (λ b. (cond b (says (record state { groups = with_store state.groups salvo change }) (Stored at source salvo)) (says_nothing state)).state.boards ≡ state.boards) [
      | true ↦ refl
      | false ↦ refl
    ]

-- a list in which nothing is is empty
none_among : (dests : List ℕ) → ((d : ℕ) → is_among dests d ≡ true → ⊥) → dests ≡ []
none_among [] none = refl
none_among (dest ∷ dests) none = absurd (none dest (ap (λ b. b || is_among dests dest) (eq-eqb dest dest refl)))

gone-quiet : (state : State) (panel : ℕ) (clear : Bool) (salvo : ℕ) → IsValid state → CarryAsBefore state (gone state panel clear salvo).state → (gone state panel clear salvo).state.boards ≡ state.boards
gone-quiet state panel clear salvo valid same =
    by_gone (λ (stepped : Stepped State Answer). CarryAsBefore state stepped.state → stepped.state.boards ≡ state.boards) state panel clear salvo (λ may. still) (λ cleared same. refl) (λ status same. refl) same
  where
    group : Group
    group = group_of state.groups salvo

    still : ((d : ℕ) → source_of (applied state.plant state.crosspoints group) d ≡ source_of state.crosspoints d) → all_marked state.boards (moved state.crosspoints group) ≡ state.boards
    still same = ap (all_marked state.boards) (none_among (moved state.crosspoints group) (λ d among. is_moved state.plant state.crosspoints group d (valid.groups.each salvo).distinct among (same d)))

pub told-quiet : (state : State) (panel item : ℕ) (message : Message) → IsValid state → CarryAsBefore state (step state (Told panel item message)).state → OwnedAsBefore state (step state (Told panel item message)).state →
    (step state (Told panel item message)).state.boards ≡ state.boards
told-quiet state panel item (Interrogate at) valid sources owners = refl
told-quiet state panel item (Connect at source) valid sources owners = connect-quiet state panel (Connected at source) (tally_of at (standing state at)) (change_of state.plant at source) sources
told-quiet state panel item (ExtConnect at source) valid sources owners = connect-quiet state panel (ExtConnected at source) (ExtTally at (standing state at)) (change_of state.plant at source) sources
told-quiet state panel item (ProtectConnect at device) valid sources owners = protect-quiet state panel at (dest_of state at) owners
told-quiet state panel item (ProtectDisconnect at device) valid sources owners = lift-quiet state panel at (dest_of state at) owners
told-quiet state panel item (Store at source salvo) valid sources owners = store-quiet state at source salvo (change_of state.plant at source)
told-quiet state panel item (Go clear salvo) valid sources owners = gone-quiet state panel clear salvo valid sources
told-quiet state panel item message valid sources owners = refl
