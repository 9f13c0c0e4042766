-- Who hears of what, and what polls tell.
use Rattle.std.proofs.Common.{◌≡◌, ◌≢◌, ℕ, Bool, true, false, cond, List, [], ◌∷◌, Option, Some, None, inl, inr, refl, sym, ap, subst, ◌∙◌}
use Rattle.std.proofs.lemmas.Bool.{cases_eq, false_from_ne_true}
use Rattle.std.specs.Option.{option_map}
use Rattle.std.specs.FinMap as finite
use Rattle.swp08_messages.specs.declared.point.Point.{Point}
use Rattle.swp08_messages.specs.declared.message.Message.{Message}
use Rattle.swp08_messages.specs.declared.message.Message.TheVariants.{Connect, Connected, ExtConnect, ExtTally, ExtConnected, ProtectConnect, ProtectDisconnect, ProtectTally, ProtectConnected, ProtectDisconnected, Go}
use Rattle.plant_config.specs.declared.records.Change.{Change}
use Rattle.crosspoint_state.specs.Crosspoints.{Crosspoints, source_of, is_idle}
use Rattle.crosspoint_state.specs.Applied.{applied}
use Rattle.crosspoint_state.specs.declared.spot.Spot.{Spot}
use Rattle.protects.specs.Owners.{Owners, allows, may_lift, taken, lifted}
use Rattle.salvo_groups.specs.Groups.{Group, group_of}
use Rattle.change_boards.specs.Board.{Board}
use Rattle.change_boards.specs.Notices.{board_of, has, has_left}
use Rattle.change_boards.specs.declared.sort.Sort.TheVariants.{Source, Protect}
use Rattle.history_lock.specs.Step.{Stepped}
use Rattle.plant_core.specs.declared.request.Request.TheVariants.{Told}
use Rattle.plant_core.specs.declared.answer.Answer.{Answer}
use Rattle.plant_core.specs.State.{State, IsValid, device_of, is_master, standing}
use Rattle.plant_core.specs.Wide.{tally_of}
use Rattle.plant_core.specs.Noticed.{marked_for_others}
use Rattle.plant_core.specs.Connects.{says, change_of, changed, connected}
use Rattle.plant_core.specs.Protecting.{owner_told, has_same_owner, with_owners, protected, unprotected}
use Rattle.plant_core.specs.Salvos.{emptied, moved, all_changed}
use Rattle.plant_core.specs.Step.{step, dest_of}
use Rattle.plant_core.specs.NoticeLaws.{IsHeard, IsOfOne, SourceChanged, OwnerChanged, AreHeardByAll}
use Rattle.plant_core.proofs.Outcomes.{by_made, by_gone}
use Rattle.plant_core.proofs.Changes.{same_source, applied-idle, get-one_other, not_moved, is_moved}
use Rattle.plant_core.proofs.Noticed.{is_among, others-IsHeard, marked_heard, marked_gone, marked_others, marked_stays_left}
use Rattle.plant_core.proofs.OwnerLemmas.{taken_other, lifted_other}
use Rattle.plant_core.proofs.ProtectLemmas.{connected-owners}
use Rattle.plant_core.proofs.StepLeaves.{protected-leaves, unprotected-leaves}

-- what changes no crosspoint changes no source
no_source : (old new : State) (dest : ℕ) → new.crosspoints ≡ old.crosspoints → ¬ SourceChanged old new dest
no_source old new dest same changed = changed (ap (λ (x : Crosspoints). source_of x dest) same)

no_owner : (old new : State) (dest : ℕ) → new.owners ≡ old.owners → ¬ OwnerChanged old new dest
no_owner old new dest same changed = changed (ap (λ (o : Owners). finite.get o dest) same)

-- a connect that changes a source is heard of
connect-heard : (state : State) (panel dest : ℕ) (made refused : Message) (change : Option Change) → SourceChanged state (connected state panel made refused change).state dest →
    IsHeard state.boards (connected state panel made refused change).state.boards panel dest Source
connect-heard state panel dest made refused None moves = absurd (moves refl)
connect-heard state panel dest made refused (Some change) moves =
    by_made (λ (stepped : Stepped State Answer). SourceChanged state stepped.state dest → IsHeard state.boards stepped.state.boards panel dest Source) state panel made refused change
    (λ may. by_idle (is_idle state.crosspoints change) refl) (λ moves. absurd (moves refl)) moves
  where
    by_idle : (b : Bool) → is_idle state.crosspoints change ≡ b → source_of (applied state.plant state.crosspoints (change ∷ [])) dest ≢ source_of state.crosspoints dest →
        IsHeard state.boards (cond b state.boards (marked_for_others state.boards panel change.dest Source)) panel dest Source
    by_idle true idle moves = absurd (moves (ap (λ (x : Crosspoints). source_of x dest) (applied-idle state.plant state.crosspoints change idle)))
    by_idle false busy moves = elim (cases_eq dest change.dest) [
      | inl same ↦ subst (λ d. IsHeard state.boards (marked_for_others state.boards panel change.dest Source) panel d Source) (sym same) (others-IsHeard state.boards panel change.dest Source)
      | inr other ↦ absurd (moves (ap (option_map (λ (spot : Spot). spot.source)) (get-one_other state.plant state.crosspoints change dest other)))
    ]

pub source-heard : (state : State) (panel item dest : ℕ) (message : Message) → IsValid state → IsOfOne message → SourceChanged state (step state (Told panel item message)).state dest →
    IsHeard state.boards (step state (Told panel item message)).state.boards panel dest Source
source-heard state panel item dest (Connect at source) valid one moves = connect-heard state panel dest (Connected at source) (tally_of at (standing state at)) (change_of state.plant at source) moves
source-heard state panel item dest (ExtConnect at source) valid one moves = connect-heard state panel dest (ExtConnected at source) (ExtTally at (standing state at)) (change_of state.plant at source) moves
source-heard state panel item dest (ProtectConnect at device) valid one moves = absurd (no_source state (protected state panel at (dest_of state at)).state dest (protected-leaves state panel at (dest_of state at)).crosspoints moves)
source-heard state panel item dest (ProtectDisconnect at device) valid one moves = absurd (no_source state (unprotected state panel at (dest_of state at)).state dest (unprotected-leaves state panel at (dest_of state at)).crosspoints moves)
source-heard state panel item dest message valid one moves = absurd one

-- so is a protect or a lift that changes an owner
owners-heard : (state : State) (panel dest d : ℕ) (owners : Owners) → ((q : ℕ) → q ≢ d → finite.get owners q ≡ finite.get state.owners q) → finite.get owners dest ≢ finite.get state.owners dest →
    IsHeard state.boards (with_owners state panel d owners).boards panel dest Protect
owners-heard state panel dest d owners others moves = by_same (has_same_owner state.owners owners d) refl
  where
    by_same : (b : Bool) → has_same_owner state.owners owners d ≡ b → IsHeard state.boards (cond b state.boards (marked_for_others state.boards panel d Protect)) panel dest Protect
    by_same b is = elim (cases_eq dest d) [
      | inl same ↦ here same b is
      | inr other ↦ absurd (moves (others dest other))
    ]
      where
        here : dest ≡ d → (b : Bool) → has_same_owner state.owners owners d ≡ b → IsHeard state.boards (cond b state.boards (marked_for_others state.boards panel d Protect)) panel dest Protect
        here same true is = absurd (moves (ap (finite.get owners) same ∙ sym (same_source (finite.get state.owners d) (finite.get owners d) is) ∙ ap (finite.get state.owners) (sym same)))
        here same false is = subst (λ n. IsHeard state.boards (marked_for_others state.boards panel d Protect) panel n Protect) (sym same) (others-IsHeard state.boards panel d Protect)

protect-heard : (state : State) (panel dest : ℕ) (at : Point) (named : Option ℕ) → OwnerChanged state (protected state panel at named).state dest → IsHeard state.boards (protected state panel at named).state.boards panel dest Protect
protect-heard state panel dest at None moves = absurd (moves refl)
protect-heard state panel dest at (Some d) moves = go (allows state.owners (device_of state.plant panel) d) moves
  where
    go : (b : Bool) → OwnerChanged state (cond b (says (with_owners state panel d (taken state.owners (device_of state.plant panel) d)) (owner_told ProtectConnected at (Some (device_of state.plant panel)))) (says state (owner_told ProtectTally at (finite.get state.owners d)))).state dest →
        IsHeard state.boards (cond b (says (with_owners state panel d (taken state.owners (device_of state.plant panel) d)) (owner_told ProtectConnected at (Some (device_of state.plant panel)))) (says state (owner_told ProtectTally at (finite.get state.owners d)))).state.boards panel dest Protect
    go true moves = owners-heard state panel dest d (taken state.owners (device_of state.plant panel) d) (taken_other state.owners (device_of state.plant panel) d) moves
    go false moves = absurd (moves refl)

lift-heard : (state : State) (panel dest : ℕ) (at : Point) (named : Option ℕ) → OwnerChanged state (unprotected state panel at named).state dest → IsHeard state.boards (unprotected state panel at named).state.boards panel dest Protect
lift-heard state panel dest at None moves = absurd (moves refl)
lift-heard state panel dest at (Some d) moves = go (may_lift state.owners (device_of state.plant panel) (is_master state.plant panel) d) moves
  where
    go : (b : Bool) → OwnerChanged state (cond b (says (with_owners state panel d (lifted state.owners (device_of state.plant panel) (is_master state.plant panel) d)) (owner_told ProtectDisconnected at None)) (says state (owner_told ProtectTally at (finite.get state.owners d)))).state dest →
        IsHeard state.boards (cond b (says (with_owners state panel d (lifted state.owners (device_of state.plant panel) (is_master state.plant panel) d)) (owner_told ProtectDisconnected at None)) (says state (owner_told ProtectTally at (finite.get state.owners d)))).state.boards panel dest Protect
    go true moves =
        owners-heard state panel dest d (lifted state.owners (device_of state.plant panel) (is_master state.plant panel) d) (lifted_other state.owners (device_of state.plant panel) (is_master state.plant panel) d) moves
    go false moves = absurd (moves refl)

pub owner-heard : (state : State) (panel item dest : ℕ) (message : Message) → IsValid state → IsOfOne message → OwnerChanged state (step state (Told panel item message)).state dest →
    IsHeard state.boards (step state (Told panel item message)).state.boards panel dest Protect
owner-heard state panel item dest (Connect at source) valid one moves = absurd (no_owner state (connected state panel (Connected at source) (tally_of at (standing state at)) (change_of state.plant at source)).state dest (connected-owners state panel (Connected at source) (tally_of at (standing state at)) (change_of state.plant at source)) moves)
owner-heard state panel item dest (ExtConnect at source) valid one moves = absurd (no_owner state (connected state panel (ExtConnected at source) (ExtTally at (standing state at)) (change_of state.plant at source)).state dest (connected-owners state panel (ExtConnected at source) (ExtTally at (standing state at)) (change_of state.plant at source)) moves)
owner-heard state panel item dest (ProtectConnect at device) valid one moves = protect-heard state panel dest at (dest_of state at) moves
owner-heard state panel item dest (ProtectDisconnect at device) valid one moves = lift-heard state panel dest at (dest_of state at) moves
owner-heard state panel item dest message valid one moves = absurd one

-- a go is heard of by all
unheard : (old new : State) → new.crosspoints ≡ old.crosspoints → new.boards ≡ old.boards → AreHeardByAll old new
unheard old new crosspoints boards = record {
  heard = λ panel dest within left moves. absurd (no_source old new dest crosspoints moves);
  gone = λ panel left. ap (λ (b : List Board). board_of b panel) boards;
  others = λ panel dest sort none. ap (λ (b : List Board). has b panel dest sort) boards;
  left = λ panel. ap (λ (b : List Board). has_left b panel) boards;
}

heard-whole : (state : State) (salvo : ℕ) → IsValid state → AreHeardByAll state (emptied (all_changed state (group_of state.groups salvo)) salvo)
heard-whole state salvo valid =
    let group : Group = group_of state.groups salvo in
    let dests : List ℕ = moved state.crosspoints group in
    let once = (valid.groups.each salvo).distinct in
    record {
      heard = λ panel dest within left moves. marked_heard dests state.boards panel dest (among dest moves (is_among dests dest) refl) within left;
      gone = λ panel left. marked_gone dests state.boards panel left;
      others = λ panel dest sort none.
          marked_others dests state.boards panel dest sort (λ of. false_from_ne_true (is_among dests dest) (λ yes. none of (is_moved state.plant state.crosspoints group dest once yes)));
      left = λ panel. marked_stays_left dests state.boards panel;
    }
  where
    among : (dest : ℕ) → source_of (applied state.plant state.crosspoints (group_of state.groups salvo)) dest ≢ source_of state.crosspoints dest → (b : Bool) → is_among (moved state.crosspoints (group_of state.groups salvo)) dest ≡ b →
        is_among (moved state.crosspoints (group_of state.groups salvo)) dest ≡ true
    among dest moves true is = is
    among dest moves false is = absurd (moves (not_moved state.plant state.crosspoints (group_of state.groups salvo) dest (valid.groups.each salvo).distinct is))

pub go-heard : (state : State) (panel item salvo : ℕ) (clear : Bool) → IsValid state → AreHeardByAll state (step state (Told panel item (Go clear salvo))).state
go-heard state panel item salvo clear valid =
    by_gone (λ (stepped : Stepped State Answer). AreHeardByAll state stepped.state) state panel clear salvo
    (λ may. heard-whole state salvo valid) (λ cleared. unheard state (emptied state salvo) refl refl) (λ status. unheard state state refl refl)
