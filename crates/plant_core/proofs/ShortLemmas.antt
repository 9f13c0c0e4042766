-- What the commands that aren't extended alone can reach stays within what they can tell.
use Rattle.std.proofs.Common.{◌≡◌, ℕ, ◌<◌, Bool, true, false, cond, List, [], length, set, All, Option, Some, None, IfSome, inl, inr, refl, sym, ap, subst, ◌∙◌, arith}
use Rattle.std.specs.Ordering.{nat_cmp}
use Rattle.std.specs.FinMap as finite
use Rattle.std.proofs.lemmas.Bool.{cases_eq, cases_lt, true≢false}
use Rattle.std.proofs.lemmas.List.{get_or_past, length-replicate, get_or-replicate, length-set}
use Rattle.std.proofs.lemmas.List.Elements.{All-nil}
use Rattle.swp08_messages.specs.declared.point.Point.{Point}
use Rattle.swp08_messages.specs.declared.message.Message.{Message}
use Rattle.swp08_messages.specs.declared.message.Message.TheVariants.{Interrogate, Connect, Connected, ExtConnect, ExtTally, ExtConnected, ProtectConnect, ProtectDisconnect, ProtectTally, ProtectConnected, ProtectDisconnected, Store, Stored, Go}
use Rattle.swp08_messages.specs.Text.{IsSource}
use Rattle.plant_config.specs.declared.records.Point as places
use Rattle.plant_config.specs.declared.records.Change.{Change}
use Rattle.plant_config.specs.Plant.{PlantData}
use Rattle.plant_config.specs.IsPlant.{IsPlant}
use Rattle.plant_config.specs.Sites.{dest_at}
use Rattle.plant_config.proofs.SiteLemmas.{dest_at-point_of}
use Rattle.crosspoint_state.specs.Crosspoints.{is_idle}
use Rattle.protects.specs.Owners.{Owners, allows, may_lift, taken, lifted}
use Rattle.salvo_groups.specs.Limits.{salvo_limit}
use Rattle.salvo_groups.specs.Groups as salvos
use Rattle.salvo_groups.specs.Groups.{Group, group_of, may_store, stored, with_store, with_clear}
use Rattle.change_boards.specs.Board.{Board, blank, abandoned, has_notice, next, without, without_next}
use Rattle.change_boards.specs.Notices.{board_of, has, start_boards, with_removal, with_leave}
use Rattle.change_boards.specs.declared.sort.Sort.{Sort}
use Rattle.change_boards.specs.declared.sort.Sort.TheVariants.{Source, Protect}
use Rattle.change_boards.proofs.OneNotice.{removed_less, board_same, board_other}
use Rattle.history_lock.specs.Step.{Stepped}
use Rattle.plant_core.specs.declared.request.Request.{Request}
use Rattle.plant_core.specs.declared.request.Request.TheVariants.{Told, Poll, Leave, DisplayPoll}
use Rattle.plant_core.specs.declared.answer.Answer.{Answer}
use Rattle.plant_core.specs.State.{State, IsValid, Fits, start, standing, device_of, is_master}
use Rattle.plant_core.specs.Wide.{tally_of}
use Rattle.plant_core.specs.Short.{IsShortDest, IsShortSource, IsShortChange, StaysShort}
use Rattle.plant_core.specs.Noticed.{marked_for_others}
use Rattle.plant_core.specs.Connects.{says, says_nothing, source_wanted, change_of, changed, connected}
use Rattle.plant_core.specs.Protecting.{owner_told, has_same_owner, with_owners, protected, unprotected}
use Rattle.plant_core.specs.Salvos.{stored_in, emptied, moved, all_changed, gone}
use Rattle.plant_core.specs.Step.{step, dest_of}
use Rattle.plant_core.proofs.Validity.{values-insert, values-remove, change_of-is}
use Rattle.plant_core.proofs.GroupValidity.{each_group, All-stored}
use Rattle.plant_core.proofs.Noticed.{others-IsHeard, marked_others}
use Rattle.plant_core.proofs.Outcomes.{by_made, by_gone}
use Rattle.plant_core.proofs.Shows.{display_polled-is}
use Rattle.plant_core.proofs.Steps.{wanted-number}
use Rattle.plant_core.proofs.TellLemmas.{empty_has}

-- What a message that isn't extended names is short.

pub short-dest : (plant : PlantData) (at : Point) (dest : ℕ) → IsPlant plant → dest_at plant at.matrix at.level at.dest ≡ Some dest → at.dest < 1024 → IsShortDest plant dest
short-dest plant at dest is found low =
    subst (λ place. IfSome place (λ (place : places.Point). place.dest < 1024)) (sym (dest_at-point_of plant at.matrix at.level at.dest dest is found)) low

pub short-source : (plant : PlantData) (at : Point) (source carried : Option ℕ) → IsPlant plant → source_wanted plant at source ≡ Some carried → IsSource source → IsShortSource plant carried
short-source plant at source carried is wanted of =
    subst (λ number. IfSome number (λ number. number < 1023)) (sym (wanted-number plant at source carried is wanted)) (by source of)
  where
    by : (source : Option ℕ) → IsSource source → IfSome source (λ number. number < 1023)
    by None of = tt
    by (Some number) of = of

pub short-change : (plant : PlantData) (at : Point) (source : Option ℕ) (change : Change) → IsPlant plant → change_of plant at source ≡ Some change → at.dest < 1024 → IsSource source → IsShortChange plant change
short-change plant at source change is asks low of =
    let parts = change_of-is plant at source change asks in
    record { dest = short-dest plant at change.dest is parts.0 low; source = short-source plant at source change.source is parts.1 of }

-- One part of a state is replaced.

pub StaysShort-same : (state new : State) → new.plant ≡ state.plant → new.owners ≡ state.owners → new.boards ≡ state.boards → new.groups ≡ state.groups → StaysShort state → StaysShort new
StaysShort-same state new plant owners boards groups short = record {
  owners = λ dest device owned. subst (λ plant. IsShortDest plant dest) (sym plant) (short.owners dest device (sym (ap (λ owners. finite.get owners dest) owners) ∙ owned));
  notices = λ panel dest stands. subst (λ plant. IsShortDest plant dest) (sym plant) (short.notices panel dest (sym (ap (λ boards. has boards panel dest Protect) boards) ∙ stands));
  changes = λ number. subst (λ plant. All (IsShortChange plant) (group_of new.groups number)) (sym plant) (subst (λ groups. All (IsShortChange state.plant) (group_of groups number)) (sym groups) (short.changes number));
}

-- the boards are replaced, and each protect notice of them is short
pub StaysShort-boards : (state : State) (boards : List Board) → ((panel dest : ℕ) → has boards panel dest Protect ≡ true → IsShortDest state.plant dest) → StaysShort state → StaysShort (record state { boards = boards })
StaysShort-boards state boards notices short = record { owners = short.owners; notices = notices; changes = short.changes }

-- marks of sources leave the protect notices, and marks of a short destination's owner are short
marked-short : (state : State) (asker dest : ℕ) (sort : Sort) → (sort ≡ Protect → IsShortDest state.plant dest) → StaysShort state → (panel d : ℕ) → has (marked_for_others state.boards asker dest sort) panel d Protect ≡ true → IsShortDest state.plant d
marked-short state asker dest Source named short panel d stands =
    short.notices panel d (sym ((others-IsHeard state.boards asker dest Source).others panel d Protect (λ e. let other : Protect ≡ Source = λ i. (e i).1 in cc)) ∙ stands)
marked-short state asker dest Protect named short panel d stands = elim (cases_eq d dest) [
  | inl same ↦ subst (IsShortDest state.plant) (sym same) (named refl)
  | inr apart ↦
      short.notices panel d (sym ((others-IsHeard state.boards asker dest Protect).others panel d Protect (λ e. apart (λ i. (e i).0))) ∙ stands)
]

pub StaysShort-others : (state : State) (asker dest : ℕ) (sort : Sort) → (sort ≡ Protect → IsShortDest state.plant dest) → StaysShort state → StaysShort (record state { boards = marked_for_others state.boards asker dest sort })
StaysShort-others state asker dest sort named short =
    StaysShort-boards state (marked_for_others state.boards asker dest sort) (marked-short state asker dest sort named short) short

-- a panel's board is replaced
each_board : (P : Board → Type 0) (boards : List Board) (panel : ℕ) (board : Board) → P blank → ((p : ℕ) → P (board_of boards p)) → P board → (p : ℕ) → P (board_of (set boards panel board) p)
each_board P boards panel board none all new p = elim (cases_eq p panel) [
  | inl here ↦ elim (cases_lt panel (length boards)) [
    | inl within ↦ subst P (sym (ap (board_of (set boards panel board)) here ∙ board_same boards panel board within)) new
    | inr past ↦ subst P (sym (get_or_past (set boards panel board) p blank (omega (arith, here, past, length-set boards panel board)))) none
  ]
  | inr other ↦ subst P (sym (board_other boards panel p board other)) (all p)
]

module _ (plant : PlantData) where
  -- the protect notices of a board are short
  abbrev IsShortBoard : Board → Type 0
  IsShortBoard board = (dest : ℕ) → has_notice board dest Protect ≡ true → IsShortDest plant dest

  none_noticed : (board : Board) → ((dest : ℕ) → has_notice board dest Protect ≡ false) → IsShortBoard board
  none_noticed board none dest stands = absurd (true≢false (sym stands ∙ none dest))

  blank-short : IsShortBoard blank
  blank-short = none_noticed blank (λ dest. empty_has blank dest Protect (record { source = refl; protect = refl }))

  abandoned-short : IsShortBoard abandoned
  abandoned-short = none_noticed abandoned (λ dest. empty_has abandoned dest Protect (record { source = refl; protect = refl }))

  taken-short : (board : Board) → IsShortBoard board → IsShortBoard (without_next board)
  taken-short board short = by (next board)
    where
      by : (notice : Option (ℕ × Sort)) → IsShortBoard (without board notice)
      by None = short
      by (Some (dest, sort)) = λ d stands. short d (removed_less board dest sort d Protect stands)

pub StaysShort-take : (state : State) (panel : ℕ) → StaysShort state → StaysShort (record state { boards = with_removal state.boards panel })
StaysShort-take state panel short =
    StaysShort-boards state (with_removal state.boards panel)
    (each_board (IsShortBoard state.plant) state.boards panel (without_next (board_of state.boards panel)) (blank-short state.plant) short.notices (taken-short state.plant (board_of state.boards panel) (short.notices panel))) short

pub StaysShort-leave : (state : State) (panel : ℕ) → StaysShort state → StaysShort (record state { boards = with_leave state.boards panel })
StaysShort-leave state panel short =
    StaysShort-boards state (with_leave state.boards panel)
    (each_board (IsShortBoard state.plant) state.boards panel abandoned (blank-short state.plant) short.notices (abandoned-short state.plant)) short

-- the owners are replaced
pub StaysShort-owners : (state : State) (owners : Owners) → ((dest device : ℕ) → finite.get owners dest ≡ Some device → IsShortDest state.plant dest) → StaysShort state → StaysShort (record state { owners = owners })
StaysShort-owners state owners owned short = record { owners = owned; notices = short.notices; changes = short.changes }

pub owners-taken : (state : State) (device dest : ℕ) → IsShortDest state.plant dest → StaysShort state → (d owner : ℕ) → finite.get (taken state.owners device dest) d ≡ Some owner → IsShortDest state.plant d
owners-taken state device dest named short =
    elim (allows state.owners device dest) as (λ b. (d owner : ℕ) → finite.get (cond b (finite.insert state.owners dest device) state.owners) d ≡ Some owner → IsShortDest state.plant d) [
      | true ↦ values-insert (λ dest device. IsShortDest state.plant dest) state.owners dest device short.owners named
      | false ↦ short.owners
    ]

pub owners-lifted : (state : State) (device : ℕ) (master : Bool) (dest : ℕ) → StaysShort state → (d owner : ℕ) → finite.get (lifted state.owners device master dest) d ≡ Some owner → IsShortDest state.plant d
owners-lifted state device master dest short =
    elim (may_lift state.owners device master dest) as (λ b. (d owner : ℕ) → finite.get (cond b (finite.remove state.owners dest) state.owners) d ≡ Some owner → IsShortDest state.plant d) [
      | true ↦ values-remove (λ dest device. IsShortDest state.plant dest) state.owners dest short.owners
      | false ↦ short.owners
    ]

StaysShort-with_owners : (state : State) (asker dest : ℕ) (owners : Owners) → IsShortDest state.plant dest → ((d owner : ℕ) → finite.get owners d ≡ Some owner → IsShortDest state.plant d) → StaysShort state → StaysShort (with_owners state asker dest owners)
StaysShort-with_owners state asker dest owners named owned short =
    let new : State = record state { owners = owners } in
    let is : StaysShort new = StaysShort-owners state owners owned short in
    elim (has_same_owner state.owners owners dest) as (λ b. StaysShort (record new { boards = cond b state.boards (marked_for_others state.boards asker dest Protect) })) [
      | true ↦ is
      | false ↦ StaysShort-others new asker dest Protect (λ same. named) is
    ]

-- the groups are replaced
pub StaysShort-groups : (state : State) (groups : List Group) → ((number : ℕ) → All (IsShortChange state.plant) (group_of groups number)) → StaysShort state → StaysShort (record state { groups = groups })
StaysShort-groups state groups changes short = record { owners = short.owners; notices = short.notices; changes = changes }

pub StaysShort-store : (state : State) (salvo : ℕ) (change : Change) → IsShortChange state.plant change → StaysShort state → StaysShort (record state { groups = with_store state.groups salvo change })
StaysShort-store state salvo change is short =
    StaysShort-groups state (with_store state.groups salvo change)
    (elim (may_store (group_of state.groups salvo) change) as (λ b. (n : ℕ) → All (IsShortChange state.plant) (group_of (cond b (set state.groups salvo (stored (group_of state.groups salvo) change)) state.groups) n)) [
      | true ↦
          each_group (All (IsShortChange state.plant)) state.groups salvo (stored (group_of state.groups salvo) change) (All-nil (IsShortChange state.plant)) short.changes
          (All-stored (IsShortChange state.plant) (group_of state.groups salvo) change (short.changes salvo) is)
      | false ↦ short.changes
    ]) short

pub StaysShort-clear : (state : State) (salvo : ℕ) → StaysShort state → StaysShort (emptied state salvo)
StaysShort-clear state salvo short =
    StaysShort-groups state (with_clear state.groups salvo)
    (each_group (All (IsShortChange state.plant)) state.groups salvo [] (All-nil (IsShortChange state.plant)) short.changes (All-nil (IsShortChange state.plant))) short

-- a group is taken whole
pub StaysShort-all_changed : (state : State) (group : Group) → StaysShort state → StaysShort (all_changed state group)
StaysShort-all_changed state group short = record {
  owners = short.owners;
  notices = λ panel dest stands.
      short.notices panel dest (sym (marked_others (moved state.crosspoints group) state.boards panel dest Protect (λ same. let other : Protect ≡ Source = same in cc)) ∙ stands);
  changes = short.changes;
}

pub StaysShort-taken_whole : (state : State) (salvo : ℕ) → StaysShort state → StaysShort (emptied (all_changed state (group_of state.groups salvo)) salvo)
StaysShort-taken_whole state salvo short =
    StaysShort-clear (all_changed state (group_of state.groups salvo)) salvo (StaysShort-all_changed state (group_of state.groups salvo) short)

-- The start, and each step.

pub StaysShort-start : (plant : PlantData) → StaysShort (start plant)
StaysShort-start plant = record {
  owners = λ dest device owned. let free = finite.get-empty {X = ℕ} nat_cmp dest in cc;
  notices = λ panel. subst (IsShortBoard plant) (sym (first panel)) (blank-short plant);
  changes = λ number. subst (All (IsShortChange plant)) (sym (none number)) (All-nil (IsShortChange plant));
}
  where
    first : (panel : ℕ) → board_of (start_boards (length plant.panels)) panel ≡ blank
    first panel = elim (cases_lt panel (length plant.panels)) [
      | inl within ↦ get_or-replicate (length plant.panels) panel blank blank within
      | inr past ↦ get_or_past (start_boards (length plant.panels)) panel blank (omega (arith, past, length-replicate {A = Board} (length plant.panels) blank))
    ]

    none : (number : ℕ) → group_of salvos.start_groups number ≡ []
    none number = elim (cases_lt number salvo_limit) [
      | inl within ↦ get_or-replicate salvo_limit number [] [] within
      | inr past ↦ get_or_past salvos.start_groups number [] (omega (arith, past, length-replicate {A = Group} salvo_limit []))
    ]

pub StaysShort-changed : (state : State) (asker : ℕ) (change : Change) → StaysShort state → StaysShort (changed state asker change)
StaysShort-changed state asker change short = record {
  owners = short.owners;
  notices =
      elim (is_idle state.crosspoints change) as (λ b. (panel dest : ℕ) → has (cond b state.boards (marked_for_others state.boards asker change.dest Source)) panel dest Protect ≡ true → IsShortDest state.plant dest) [
        | true ↦ short.notices
        | false ↦ marked-short state asker change.dest Source (λ same. let other : Source ≡ Protect = same in absurd cc) short
      ];
  changes = short.changes;
}

StaysShort-connected : (state : State) (panel : ℕ) (made refused : Message) (change : Option Change) → StaysShort state → StaysShort (connected state panel made refused change).state
StaysShort-connected state panel made refused None short = short
StaysShort-connected state panel made refused (Some change) short =
    by_made (λ (stepped : Stepped State Answer). StaysShort stepped.state) state panel made refused change (λ may. StaysShort-changed state panel change short) short

StaysShort-protected : (state : State) (panel : ℕ) (at : Point) (dest : Option ℕ) → IfSome dest (IsShortDest state.plant) → StaysShort state → StaysShort (protected state panel at dest).state
StaysShort-protected state panel at None named short = short
StaysShort-protected state panel at (Some dest) named short =
    let device : ℕ = device_of state.plant panel in
    elim (allows state.owners device dest) as (λ b. StaysShort (cond b (says (with_owners state panel dest (taken state.owners device dest)) (owner_told ProtectConnected at (Some device))) (says state (owner_told ProtectTally at (finite.get state.owners dest)))).state) [
      | true ↦ StaysShort-with_owners state panel dest (taken state.owners device dest) named (owners-taken state device dest named short) short
      | false ↦ short
    ]

StaysShort-unprotected : (state : State) (panel : ℕ) (at : Point) (dest : Option ℕ) → IfSome dest (IsShortDest state.plant) → StaysShort state → StaysShort (unprotected state panel at dest).state
StaysShort-unprotected state panel at None named short = short
StaysShort-unprotected state panel at (Some dest) named short =
    let device : ℕ = device_of state.plant panel in
    let master : Bool = is_master state.plant panel in
    elim (may_lift state.owners device master dest) as (λ b. StaysShort (cond b (says (with_owners state panel dest (lifted state.owners device master dest)) (owner_told ProtectDisconnected at None)) (says state (owner_told ProtectTally at (finite.get state.owners dest)))).state) [
      | true ↦ StaysShort-with_owners state panel dest (lifted state.owners device master dest) named (owners-lifted state device master dest short) short
      | false ↦ short
    ]

-- the destination that a protect or a lift names is short
pub named-short : (state : State) (at : Point) → IsPlant state.plant → at.dest < 1024 → IfSome (dest_of state at) (IsShortDest state.plant)
named-short state at is low = by (dest_of state at) refl
  where
    by : (dest : Option ℕ) → dest_of state at ≡ dest → IfSome dest (IsShortDest state.plant)
    by None found = tt
    by (Some dest) found = short-dest state.plant at dest is found low

StaysShort-stored : (state : State) (at : Point) (source : Option ℕ) (salvo : ℕ) → IsValid state → at.dest < 1024 → IsSource source → StaysShort state → StaysShort (stored_in state at source salvo (change_of state.plant at source)).state
StaysShort-stored state at source salvo valid low of short = by (change_of state.plant at source) refl
  where
    by : (change : Option Change) → change_of state.plant at source ≡ change → StaysShort (stored_in state at source salvo change).state
    by None asks = short
    by (Some change) asks =
        elim (may_store (group_of state.groups salvo) change) as (λ b. StaysShort (cond b (says (record state { groups = with_store state.groups salvo change }) (Stored at source salvo)) (says_nothing state)).state) [
          | true ↦ StaysShort-store state salvo change (short-change state.plant at source change valid.is_plant asks low of) short
          | false ↦ short
        ]

StaysShort-gone : (state : State) (panel : ℕ) (clear : Bool) (salvo : ℕ) → StaysShort state → StaysShort (gone state panel clear salvo).state
StaysShort-gone state panel clear salvo short =
    by_gone (λ (stepped : Stepped State Answer). StaysShort stepped.state) state panel clear salvo
    (λ may. StaysShort-taken_whole state salvo short) (λ cleared. StaysShort-clear state salvo short) (λ status. short)

pub StaysShort-step : (state : State) (request : Request) → IsValid state → StaysShort state → Fits state request → StaysShort (step state request).state
StaysShort-step state (Told panel item (Interrogate at)) valid short fits = short
StaysShort-step state (Told panel item (Connect at source)) valid short fits =
    StaysShort-connected state panel (Connected at source) (tally_of at (standing state at)) (change_of state.plant at source) short
StaysShort-step state (Told panel item (ExtConnect at source)) valid short fits =
    StaysShort-connected state panel (ExtConnected at source) (ExtTally at (standing state at)) (change_of state.plant at source) short
StaysShort-step state (Told panel item (ProtectConnect at device)) valid short fits =
    StaysShort-protected state panel at (dest_of state at) (named-short state at valid.is_plant fits.1.1.1.0.0) short
StaysShort-step state (Told panel item (ProtectDisconnect at device)) valid short fits =
    StaysShort-unprotected state panel at (dest_of state at) (named-short state at valid.is_plant fits.1.1.1.0.0) short
StaysShort-step state (Told panel item (Store at source salvo)) valid short fits = StaysShort-stored state at source salvo valid fits.1.1.1.0.0 fits.1.1.1.0.1 short
StaysShort-step state (Told panel item (Go clear salvo)) valid short fits = StaysShort-gone state panel clear salvo short
StaysShort-step state (Told panel item message) valid short fits = short
StaysShort-step state (Poll panel item turn) valid short fits = StaysShort-take state panel short
StaysShort-step state (Leave panel) valid short fits = StaysShort-leave state panel short
StaysShort-step state (DisplayPoll screen refresh) valid short fits =
    subst StaysShort (sym (display_polled-is state screen refresh)) (record { owners = short.owners; notices = short.notices; changes = short.changes })
