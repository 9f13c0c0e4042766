-- Groups are taken whole or not at all, and entries are read back.
use Rattle.std.proofs.Common.{◌≡◌, ◌≢◌, ◌⊎◌, ℕ, ◌<◌, ◌==◌, Bool, true, false, not, cond, List, [], ◌∷◌, length, set, Option, Some, None, IfSome, inl, inr, refl, sym, ap, subst, ◌∙◌, arith}
use Rattle.std.specs.Prelude.{slice_get}
use Rattle.std.specs.Option.{option_map, unwrap_or}
use Rattle.std.proofs.lemmas.Bool.{false_from_ne_true, ne_eqb}
use Rattle.std.proofs.lemmas.List.{get_or-set_same, get_or-set_other}
use Rattle.swp08_messages.specs.declared.point.Point.{Point}
use Rattle.swp08_messages.specs.declared.message.Message.TheVariants.{Store, Stored, Go, GoDone, EntryAsk, Entry}
use Rattle.swp08_messages.specs.declared.go_status.GoStatus.TheVariants.{Made, Cleared, Empty, Protected, NoTie}
use Rattle.swp08_messages.specs.declared.validity.Validity.TheVariants.{NoEntry}
use Rattle.plant_config.specs.Plant.{PlantData}
use Rattle.plant_config.specs.IsPlant.{IsPlant}
use Rattle.plant_config.specs.Sites.{dest_at}
use Rattle.plant_config.specs.declared.records.Point as places
use Rattle.plant_config.specs.declared.records.Change.{Change}
use Rattle.plant_config.proofs.SiteLemmas.{dest_at-point_of}
use Rattle.tie_pools.specs.Reserve.{are_enough_for}
use Rattle.salvo_groups.specs.Limits.{salvo_limit}
use Rattle.salvo_groups.specs.Groups.{Group, group_of, may_store, stored, with_store, with_clear}
use Rattle.history_lock.specs.Step.{Stepped}
use Rattle.plant_core.specs.declared.request.Request.TheVariants.{Told}
use Rattle.plant_core.specs.declared.answer.Answer.{Answer}
use Rattle.plant_core.specs.declared.answer.Answer.TheVariants.{Say}
use Rattle.plant_core.specs.State.{State, IsValid, device_of, is_master}
use Rattle.plant_core.specs.Connects.{says, says_nothing, change_of, are_permitted}
use Rattle.plant_core.specs.Salvos.{stored_in, emptied, all_changed, gone, message_place, no_place, dest_place, validity_at, entry_told}
use Rattle.plant_core.specs.Step.{step}
use Rattle.plant_core.specs.SalvoLaws.{IsTakenWhole, HasForeign, HasTies, OtherGroupsStay, IsGone, IsCleared, IsStoredNow}
use Rattle.plant_core.proofs.Validity.{change_of-is}
use Rattle.plant_core.proofs.Changes.{source_of-applied, get-applied_other, not_permitted, kept-permitted}
use Rattle.plant_core.proofs.Outcomes.{gone_by, by_gone}
use Rattle.plant_core.proofs.Steps.{wanted-number}

-- a group that has entries has some
filled : (group : Group) → group ≢ [] → (length group == 0) ≡ false
filled [] some = absurd (some refl)
filled (entry ∷ entries) some = ne_eqb (length (entry ∷ entries)) 0 (λ e. omega arith)

-- no entry of a group is kept from the device
not_foreign : (state : State) (panel : ℕ) (group : Group) → ¬ HasForeign state (device_of state.plant panel) group → are_permitted state.owners (device_of state.plant panel) group ≡ true
not_foreign state panel group free = go (are_permitted state.owners (device_of state.plant panel) group) refl
  where
    go : (b : Bool) → are_permitted state.owners (device_of state.plant panel) group ≡ b → are_permitted state.owners (device_of state.plant panel) group ≡ true
    go true permitted = permitted
    go false kept = absurd (free (not_permitted group state.owners (device_of state.plant panel) kept))

-- a group that was emptied is empty, and the others stay
emptied-empty : (state : State) (salvo : ℕ) → IsValid state → salvo < salvo_limit → group_of (with_clear state.groups salvo) salvo ≡ []
emptied-empty state salvo valid within = get_or-set_same state.groups salvo [] [] (omega (arith, within, valid.groups.count))

emptied-others : (state new : State) (salvo : ℕ) → new.groups ≡ with_clear state.groups salvo → OtherGroupsStay state salvo new
emptied-others state new salvo h other apart = ap (λ (groups : List Group). group_of groups other) h ∙ get_or-set_other state.groups salvo other [] [] apart

changed-whole : (state : State) (salvo : ℕ) → IsValid state → IsTakenWhole state (group_of state.groups salvo) (emptied (all_changed state (group_of state.groups salvo)) salvo)
changed-whole state salvo valid = record {
  carries = source_of-applied state.plant state.crosspoints (group_of state.groups salvo) (valid.groups.each salvo).distinct;
  others = get-applied_other state.plant state.crosspoints (group_of state.groups salvo);
}

pub go-whole : (state : State) (panel item salvo : ℕ) (clear : Bool) → IsValid state →
    IsTakenWhole state (group_of state.groups salvo) (step state (Told panel item (Go clear salvo))).state ⊎ ((step state (Told panel item (Go clear salvo))).state.crosspoints ≡ state.crosspoints)
go-whole state panel item salvo clear valid =
    by_gone (λ (stepped : Stepped State Answer). IsTakenWhole state (group_of state.groups salvo) stepped.state ⊎ (stepped.state.crosspoints ≡ state.crosspoints))
    state panel clear salvo (λ may. inl (changed-whole state salvo valid)) (λ cleared. inr refl) (λ status. inr refl)

pub go-IsGone : (state : State) (panel item salvo : ℕ) → IsValid state → salvo < salvo_limit → group_of state.groups salvo ≢ [] → ¬ HasForeign state (device_of state.plant panel) (group_of state.groups salvo) →
    HasTies state panel (group_of state.groups salvo) → IsGone state salvo (step state (Told panel item (Go false salvo)))
go-IsGone state panel item salvo valid within some free enough =
    let group : Group = group_of state.groups salvo in
    let permitted = not_foreign state panel group free in
    let taken : gone state panel false salvo ≡ says (emptied (all_changed state group) salvo) (GoDone Made salvo) =
    λ i. gone_by state salvo (filled group some i) false (not (permitted i)) (not (enough i)) in
    subst (IsGone state salvo) (sym taken) (record {
      answer = refl;
      whole = changed-whole state salvo valid;
      empty = emptied-empty state salvo valid within;
      groups = emptied-others state (emptied (all_changed state group) salvo) salvo refl;
      owners = refl;
    })

pub go-tieless : (state : State) (panel item salvo : ℕ) → group_of state.groups salvo ≢ [] → ¬ HasForeign state (device_of state.plant panel) (group_of state.groups salvo) →
    ¬ HasTies state panel (group_of state.groups salvo) → step state (Told panel item (Go false salvo)) ≡ record { state = state; answers = Say (GoDone NoTie salvo) ∷ [] }
go-tieless state panel item salvo some free missing =
    let group : Group = group_of state.groups salvo in
    let permitted = not_foreign state panel group free in
    let short = false_from_ne_true (are_enough_for state.plant state.crosspoints (is_master state.plant panel) group) missing in
    λ i. gone_by state salvo (filled group some i) false (not (permitted i)) (not (short i))

pub go-kept : (state : State) (panel item salvo : ℕ) → HasForeign state (device_of state.plant panel) (group_of state.groups salvo) →
    step state (Told panel item (Go false salvo)) ≡ record { state = state; answers = Say (GoDone Protected salvo) ∷ [] }
go-kept state panel item salvo foreign =
    let group : Group = group_of state.groups salvo in
    let kept = kept-permitted group state.owners (device_of state.plant panel) foreign in
    λ i. gone_by state salvo (filled group (some group foreign) i) false (not (kept i)) (not (are_enough_for state.plant state.crosspoints (is_master state.plant panel) group))
  where
    some : (group : Group) → HasForeign state (device_of state.plant panel) group → group ≢ []
    some [] kept e = absurd (omega (arith, kept.2))
    some (entry ∷ entries) kept e = cc

pub go-IsCleared : (state : State) (panel item salvo : ℕ) → IsValid state → salvo < salvo_limit → group_of state.groups salvo ≢ [] → IsCleared state salvo (step state (Told panel item (Go true salvo)))
go-IsCleared state panel item salvo valid within some =
    let group : Group = group_of state.groups salvo in
    let cleared : gone state panel true salvo ≡ says (emptied state salvo) (GoDone Cleared salvo) =
    λ i. gone_by state salvo (filled group some i) true (not (are_permitted state.owners (device_of state.plant panel) group)) (not (are_enough_for state.plant state.crosspoints (is_master state.plant panel) group)) in
    subst (IsCleared state salvo) (sym cleared) (record {
      answer = refl;
      empty = emptied-empty state salvo valid within;
      groups = emptied-others state (emptied state salvo) salvo refl;
      rest = refl;
    })

pub go-empty : (state : State) (panel item salvo : ℕ) (clear : Bool) → group_of state.groups salvo ≡ [] →
    step state (Told panel item (Go clear salvo)) ≡ record { state = state; answers = Say (GoDone Empty salvo) ∷ [] }
go-empty state panel item salvo clear none =
    let group : Group = group_of state.groups salvo in
    λ i. gone_by state salvo (length (none i) == 0) clear (not (are_permitted state.owners (device_of state.plant panel) group)) (not (are_enough_for state.plant state.crosspoints (is_master state.plant panel) group))

-- stores
stored-by : (state : State) (at : Point) (source : Option ℕ) (salvo : ℕ) (change : Change) (b : Bool) → change_of state.plant at source ≡ Some change → may_store (group_of state.groups salvo) change ≡ b →
    stored_in state at source salvo (change_of state.plant at source) ≡ cond b (says (record state { groups = with_store state.groups salvo change }) (Stored at source salvo)) (says_nothing state)
stored-by state at source salvo change b h may =
    ap (stored_in state at source salvo) h ∙ ap (λ b. cond b (says (record state { groups = with_store state.groups salvo change }) (Stored at source salvo)) (says_nothing state)) may

pub store-IsStored : (state : State) (panel item salvo : ℕ) (at : Point) (source : Option ℕ) (change : Change) → IsValid state → salvo < salvo_limit → change_of state.plant at source ≡ Some change →
    may_store (group_of state.groups salvo) change ≡ true → IsStoredNow state at source salvo change (step state (Told panel item (Store at source salvo)))
store-IsStored state panel item salvo at source change valid within h may =
    let put : List Group = set state.groups salvo (stored (group_of state.groups salvo) change) in
    let groups : with_store state.groups salvo change ≡ put = ap (λ b. cond b put state.groups) may in
    subst (IsStoredNow state at source salvo change) (sym (stored-by state at source salvo change true h may)) (record {
      answer = refl;
      group = ap (λ (g : List Group). group_of g salvo) groups ∙ get_or-set_same state.groups salvo (stored (group_of state.groups salvo) change) [] (omega (arith, within, valid.groups.count));
      groups = λ other apart. ap (λ (g : List Group). group_of g other) groups ∙ get_or-set_other state.groups salvo other (stored (group_of state.groups salvo) change) [] apart;
      rest = refl;
    })

pub store-not : (state : State) (panel item salvo : ℕ) (at : Point) (source : Option ℕ) → IfSome (change_of state.plant at source) (λ change. may_store (group_of state.groups salvo) change ≡ false) →
    step state (Told panel item (Store at source salvo)) ≡ record { state = state; answers = [] }
store-not state panel item salvo at source full = go (change_of state.plant at source) refl full
  where
    go : (o : Option Change) → change_of state.plant at source ≡ o → IfSome o (λ change. may_store (group_of state.groups salvo) change ≡ false) → stored_in state at source salvo (change_of state.plant at source) ≡ says_nothing state
    go None h full = ap (stored_in state at source salvo) h
    go (Some change) h full = stored-by state at source salvo change false h full

-- the place of a destination that a place has is that place
pub dest_place-at : (plant : PlantData) (at : Point) (dest : ℕ) → IsPlant plant → dest_at plant at.matrix at.level at.dest ≡ Some dest → dest_place plant dest ≡ at
dest_place-at plant at dest is found =
    ap (λ (o : Option places.Point). unwrap_or (option_map message_place o) no_place) (dest_at-point_of plant at.matrix at.level at.dest dest is found)

-- entries
pub entry-told : (state : State) (panel item salvo index : ℕ) (at : Point) (source : Option ℕ) (change : Change) → IsValid state → slice_get (group_of state.groups salvo) index ≡ Some change → change_of state.plant at source ≡ Some change →
    (step state (Told panel item (EntryAsk salvo index))).answers ≡ Say (Entry at source salvo index (validity_at (group_of state.groups salvo) index)) ∷ []
entry-told state panel item salvo index at source change valid here asks =
    let parts = change_of-is state.plant at source change asks in
    let place = dest_place-at state.plant at change.dest valid.is_plant parts.0 in
    let number = wanted-number state.plant at source change.source valid.is_plant parts.1 in
    ap (λ (o : Option Change). Say (entry_told state.plant (group_of state.groups salvo) salvo index o) ∷ []) here
    ∙ (λ i. Say (Entry (place i) (number i) salvo index (validity_at (group_of state.groups salvo) index)) ∷ [])

pub entry-none : (state : State) (panel item salvo index : ℕ) → slice_get (group_of state.groups salvo) index ≡ None →
    (step state (Told panel item (EntryAsk salvo index))).answers ≡ Say (Entry no_place (Some 0) salvo index NoEntry) ∷ []
entry-none state panel item salvo index none = ap (λ (o : Option Change). Say (entry_told state.plant (group_of state.groups salvo) salvo index o) ∷ []) none
